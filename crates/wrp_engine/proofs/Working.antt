-- Turns do more nodes.
use Rattle.std.proofs.Common.{◌≡◌, ℕ, ◌<◌, ◌≤◌, true, List, Option, Some, None, refl, sym, ◌∙◌, ap, subst, arith}
use Rattle.std.specs.Prelude.{IfSome, IsSome}
use Rattle.wrp_town.specs.declared.town.Town.{Town}
use Rattle.wrp_rules.specs.declared.record.Record.{Record}
use Rattle.wrp_rules.specs.declared.record.Record.TheVariants.{Tour, Conn, Odd, Round, Kc, Bound, Empty, Apart, Point, Blind, Split, Labels}
use Rattle.wrp_rules.specs.Nodes.{Standing, done, standing, upper_after}
use Rattle.wrp_rules.specs.Lists.{is_valid}
use Rattle.wrp_laws.proofs.CutRows.{goes_on_keeps}
use Rattle.wrp_progress.specs.Progress.{GoesOn, IsDoneIn}
use Rattle.wrp_progress.proofs.Growing.{standing_both, goes_on_behind}
use Rattle.wrp_progress.proofs.Keeping.{done_rises, done_grows}
use Rattle.wrp_keep.specs.Keeps.{KeepState}
use Rattle.wrp_engine.specs.declared.found.Found.{Found}
use Rattle.wrp_engine.specs.declared.found.Found.TheVariants.{Optimal, Unfinished}
use Rattle.wrp_engine.specs.Searches.{Search, Advances, IsOpenAt, IsDoneAt, now}
use Rattle.wrp_engine.specs.Found.{IsFound, HasWorked, FindsSince}

-- where a node that was open is done, more nodes are
pub does_more : (a b : Search) (node : ℕ) → Advances a b → IsOpenAt a.keep node → IsDoneAt b.keep node → done (now a.keep) < done (now b.keep)
does_more a b node goes opened shut =
    subst (λ (t : Town). done (now a.keep) < done (standing t b.keep.records)) (sym goes.town)
    (done_rises a.keep.town a.keep.records b.keep.records node goes.list opened (subst (λ (t : Town). IsDoneIn t b.keep.records node) goes.town shut))

-- no node that was done opens again
pub does_no_less : (a b : Search) → Advances a b → done (now a.keep) ≤ done (now b.keep)
does_no_less a b goes =
    subst (λ (t : Town). done (now a.keep) ≤ done (standing t b.keep.records)) (sym goes.town)
    (done_grows a.keep.town a.keep.records b.keep.records goes.list)

-- work behind other work
pub worked_then : (a b c : Search) (budget : ℕ) → Advances a b → HasWorked budget b.keep c.keep → HasWorked budget a.keep c.keep
worked_then a b c budget goes worked node opened = omega (arith, does_no_less a b goes, worked node opened)

-- what is found behind work that spent its budget
pub found_spent : (budget : ℕ) (old new : KeepState) (before : ℕ) (found : Found) → before ≡ done (now old) → HasWorked budget old new → FindsSince before new.town new.records found → IsFound budget old new found
found_spent budget old new before (Optimal cost) is worked finds = record { agreeing = finds.agreeing; spent = tt }
found_spent budget old new before (Unfinished low high told after) is worked finds =
    let more = worked finds.counts.2.0 finds.counts.2.1 in
    record {
      agreeing = finds.agreeing;
      spent = (finds.counts.0 ∙ is, finds.counts.1, omega (arith, finds.counts.0, finds.counts.1, is, more));
    }

pub some_map : {X : Type 0} (P Q : X → Type 0) (o : Option X) → ((x : X) → P x → Q x) → IfSome o P → IfSome o Q
some_map P Q None weaker told = tt
some_map P Q (Some x) weaker told = weaker x told

-- ---- a tour that stands

some_after : (upper : Option ℕ) (item : Record) → IsSome upper → IsSome (upper_after upper item)
some_after upper (Tour cost steps) some = refl
some_after upper (Conn r1 r2 set) some = some
some_after upper (Odd set) some = some
some_after upper (Round divisor mult) some = some
some_after upper (Kc k of) some = some
some_after upper (Bound node den mult) some = some
some_after upper (Empty node mult) some = some
some_after upper (Apart node r1 r2 set) some = some
some_after upper (Point node den numbers) some = some
some_after upper (Blind node) some = some
some_after upper (Split node arc k) some = some
some_after upper (Labels labels streets) some = some

upper_stays : (town : Town) (old new : List Record) → GoesOn town old new → IsSome (standing town old).upper → IsSome (standing town new).upper
upper_stays town old new goes some =
    subst (λ (s : Standing). IsSome s.upper) (sym (ap (standing town) goes.is ∙ standing_both town old goes.more))
    (goes_on_keeps town (λ s. IsSome s.upper) (λ s item sound there. some_after s.upper item there) (standing town old) goes.more
    (goes_on_behind town old goes.more (subst (λ (rs : List Record). is_valid town rs ≡ true) goes.is goes.valid)) some)

pub keeps_upper : (a b : Search) → Advances a b → IsSome (now a.keep).upper → IsSome (now b.keep).upper
keeps_upper a b goes some =
    subst (λ (t : Town). IsSome (standing t b.keep.records).upper) (sym goes.town) (upper_stays a.keep.town a.keep.records b.keep.records goes.list some)
