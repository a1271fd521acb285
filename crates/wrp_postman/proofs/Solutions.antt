-- What is found of a town is true, and told in the texts.
use Rattle.std.proofs.Common.{◌≡◌, ◌∙◌, ℕ, ◌≤◌, true, List, [], ◌∷◌, ◌++◌, length, inl, refl, sym, ap, subst, arith}
use Rattle.std.specs.List.{AllByRecursion}
use Rattle.std.proofs.lemmas.Bool.{and_parts, leb-true, false≢true}
use Rattle.std.proofs.lemmas.List.Sums.{count_by-le-length}
use Rattle.wrp_town.specs.declared.town.Town.{Town}
use Rattle.wrp_town.proofs.WalkLaws.{are_legal}
use Rattle.wrp_rules.specs.declared.record.Record.{Record}
use Rattle.wrp_rules.specs.declared.record.Record.TheVariants.{Labels}
use Rattle.wrp_rules.specs.declared.record.End.{End}
use Rattle.wrp_rules.specs.declared.record.End.TheVariants.{Infeasible}
use Rattle.wrp_rules.specs.Rules.{is_labels}
use Rattle.wrp_rules.specs.Lines.{line_of}
use Rattle.wrp_rules.specs.Proofs.{version_2, proof_text}
use Rattle.wrp_writer.specs.Limits.{is_writable}
use Rattle.wrp_laws.proofs.AllEnds.{valid_end}
use Rattle.wrp_reach.specs.Answers.{IsSplit}
use Rattle.wrp_licence.specs.Causes.{IsCaused}
use Rattle.wrp_licence.proofs.Prefixes.{each_of_none, each_of_more}
use Rattle.wrp_keep.specs.Keeps.{KeepState}
use Rattle.wrp_engine.specs.declared.found.Found.{Found}
use Rattle.wrp_engine.specs.declared.found.Found.TheVariants.{Optimal, Unfinished}
use Rattle.wrp_engine.specs.Found.{end_of}
use Rattle.wrp_engine.specs.Additions.{is_tour}
use Rattle.wrp_engine.specs.Forced.{IsForced, AddsForced, above_done, EndsOptimal}
use Rattle.wrp_report.specs.Texts.{text_of, report_lines, summary_lines}
use Rattle.wrp_report.specs.declared.answer.Answer.{Answer}
use Rattle.wrp_report.proofs.LastTours.{last_walks, last_legal}
use Rattle.wrp_postman.specs.declared.search.Solved.{Solved}
use Rattle.wrp_postman.specs.declared.solve.Texts.{Texts}
use Rattle.wrp_postman.specs.declared.demo.SummaryText.{SummaryText}
use Rattle.wrp_postman.specs.Searches.{bare_of, IsClosedEnd, IsForcedSearch, IsFound, IsTrue, IsListed, IsAnswer, IsAnswerOfSome, AreTexts, IsSummary}

lines_short : (records : List Record) → AllByRecursion (λ item. is_writable item ≡ true) records → AllByRecursion (λ item. length (line_of item) ≤ version_2.limit) records
lines_short [] writable = tt
lines_short (item ∷ records) (first, others) = (leb-true _ _ (and_parts _ _ first).1, lines_short records others)

found_true : (town : Town) (records : List Record) (end : End) → IsFound town records end → IsTrue town records end
found_true town records end found = record {
  holds = valid_end town records end found.valid found.agreeing;
  walks = last_walks town records end found.valid found.agreeing;
  proves = λ whole. (records, inl (record { text = refl; valid = found.valid; agreeing = found.agreeing; lines = lines_short records found.writable; whole = whole }));
}

-- the same town and list by other names
pub answer_along : (town other : Town) (budget : ℕ) (records items : List Record) (solved : Solved) → other ≡ town → items ≡ records → IsAnswer town budget records solved → IsAnswer other budget items solved
answer_along town other budget records items solved same list answer =
    subst (λ (t : Town). IsAnswer t budget items solved) (sym same) (subst (λ (rs : List Record). IsAnswer town budget rs solved) (sym list) answer)

pub steps_legal : (town : Town) (records : List Record) (answer : Answer) → IsListed town records answer → are_legal town answer.steps ≡ true
steps_legal town records answer listed = subst (λ (a : Answer). are_legal town a.steps ≡ true) (sym listed.is) (last_legal town records listed.found.valid)

pub texts_told : (town : Town) (budget : ℕ) (records : List Record) (solved : Solved) (texts : Texts) → texts.status ≡ solved.status → texts.proof.items ≡ proof_text version_2 records solved.answer.end → texts.report.items ≡ text_of (report_lines town solved.answer) → IsAnswer town budget records solved → AreTexts town budget texts
texts_told town budget records solved texts status proof report is = record {
  records = records;
  end = solved.answer.end;
  found = is.listed.found;
  searched = is.searched;
  true = found_true town records solved.answer.end is.listed.found;
  status = record { is = status ∙ is.status.is; spent = is.status.spent };
  proof = proof;
  report = report ∙ ap (λ (a : Answer). text_of (report_lines town a)) is.listed.is;
}

pub summary_told : (town : Town) (budget : ℕ) (solved : Solved) (summary : SummaryText) → IsAnswerOfSome town budget solved → summary.status ≡ solved.status → summary.text.items ≡ text_of (summary_lines town solved.answer) → IsSummary town budget summary
summary_told town budget solved summary (records, is) status text = record {
  records = records;
  end = solved.answer.end;
  found = is.listed.found;
  searched = is.searched;
  true = found_true town records solved.answer.end is.listed.found;
  status = record { is = status ∙ is.status.is; spent = is.status.spent };
  text = text ∙ ap (λ (a : Answer). text_of (summary_lines town a)) is.listed.is;
}

-- ---- what the search added is the whole list, where it began with none

pub whole_list : (town : Town) (budget : ℕ) (old new : KeepState) (found : Found) → old ≡ bare_of town → AddsForced budget old new → (above_done old.town ≤ budget → EndsOptimal found) → IsForcedSearch town budget new.records (end_of found)
whole_list town budget old new found bare adds ends = record {
  forced = subst (λ (rs : List Record). IsForced town budget [] rs) (sym (adds.is ∙ ap (λ (k : KeepState). k.records ++ adds.added) bare))
      (subst (λ (k : KeepState). IsForced k.town budget k.records adds.added) bare adds.forced);
  closed = λ enough. closed_by found (ends (subst (λ (k : KeepState). above_done k.town ≤ budget) (sym bare) enough));
}
  where
    closed_by : (f : Found) → EndsOptimal f → IsClosedEnd (end_of f)
    closed_by (Optimal cost) ends = tt
    closed_by (Unfinished low high before after) ends = ends

labels_caused : (town : Town) (item : Record) → is_labels item ≡ true → IsCaused town [] [] item
labels_caused town (Labels labels streets) is = record {}
labels_caused town item is = absurd (false≢true is)

pub labels_forced : (town : Town) (budget : ℕ) (item : Record) → IsSplit town item → IsForcedSearch town budget (item ∷ []) Infeasible
labels_forced town budget item split = record {
  forced = record {
    caused = each_of_more (IsCaused town []) [] item (each_of_none (IsCaused town [])) (labels_caused town item split.labels);
    records = omega arith;
    tours = omega (arith, count_by-le-length is_tour (item ∷ []));
  };
  closed = λ enough. tt;
}
