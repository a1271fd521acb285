-- What a whole run adds, and with which budget it comes to an end.
use Rattle.std.proofs.Common.{◌≡◌, ℕ, ◌+◌, ◌*◌, ◌≤◌, true, not, [], sym, ap, ◌∙◌, arith}
use Rattle.std.proofs.lemmas.List.{append-nil}
use Rattle.std.proofs.lemmas.List.Sums.{count_by-le-length}
use Rattle.wrp_rules.specs.Nodes.{standing, is_open}
use Rattle.wrp_rules.specs.Lists.{is_valid}
use Rattle.wrp_laws.proofs.NodeCount.{few_nodes}
use Rattle.wrp_licence.specs.Causes.{cuts_of, IsCaused}
use Rattle.wrp_licence.proofs.Prefixes.{each_of_none}
use Rattle.wrp_licence.proofs.Pools.{few_cuts}
use Rattle.wrp_keep.specs.Keeps.{KeepState}
use Rattle.wrp_engine.specs.declared.found.Found.{Found}
use Rattle.wrp_engine.specs.declared.found.Found.TheVariants.{Optimal, Unfinished}
use Rattle.wrp_engine.specs.Searches.{Search, Advances}
use Rattle.wrp_engine.specs.Found.{IsFound}
use Rattle.wrp_engine.specs.Additions.{Adds}
use Rattle.wrp_engine.specs.Forced.{AddsForced, above_done, EndsOptimal}
use Rattle.wrp_engine.proofs.Adding.{cuts_both}
use Rattle.wrp_engine.proofs.Working.{does_no_less}

pub forced_by : (budget : ℕ) (old new : Search) → Advances old new → Adds (4 * budget + 1) (2 * budget + 1) old.keep new.keep → AddsForced budget old.keep new.keep
forced_by budget old new goes adds =
    let few : cuts_of new.keep.records ≤ 20000 = few_cuts old.keep.town new.keep.records goes.list.valid in
    let both : cuts_of new.keep.records ≡ cuts_of old.keep.records + cuts_of adds.more = ap cuts_of adds.is ∙ cuts_both old.keep.records adds.more in
    record {
      added = adds.more;
      is = adds.is;
      forced = record {
        caused = adds.caused old.keep.records [] (sym (append-nil old.keep.records)) (record {}) (each_of_none (IsCaused old.keep.town old.keep.records));
        records = omega (arith, adds.few.records, few, both);
        tours = omega (arith, adds.few.tours, few, both);
      };
      done_grows = does_no_less old new goes;
    }

-- no more nodes can be done
pub ends_optimal : (budget : ℕ) (old new : KeepState) (found : Found) → is_valid new.town new.records ≡ true → IsFound budget old new found → above_done new.town ≤ budget → EndsOptimal found
ends_optimal budget old new (Optimal cost) valid is enough = record {}
ends_optimal budget old new (Unfinished low high before after) valid is enough =
    let s = standing new.town new.records in
    let spent = is.spent in
    absurd (omega (arith, spent.1, spent.2, enough, few_nodes new.town new.records valid, count_by-le-length (λ node. not (is_open s.upper node)) s.nodes))
