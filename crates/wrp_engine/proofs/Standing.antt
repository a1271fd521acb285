-- The box of a node lies on the desk while the list goes on.
use Rattle.std.proofs.Common.{ℕ, List, ap, sym, ◌∙◌, subst, arith}
use Rattle.wrp_town.specs.declared.town.Town.{Town}
use Rattle.wrp_rules.specs.declared.record.Record.{Record}
use Rattle.wrp_progress.specs.Progress.{GoesOn}
use Rattle.wrp_progress.proofs.Keeping.{goes_on_keeps_nodes}
use Rattle.wrp_engine.specs.declared.desk.Desk.{Desk}
use Rattle.wrp_engine.specs.Searches.{Search, Advances}
use Rattle.wrp_engine.specs.Desks.{IsDeskOf}

pub box_stays : (town : Town) (old new : List Record) (node : ℕ) (desk : Desk) → GoesOn town old new → IsDeskOf town old node desk → IsDeskOf town new node desk
box_stays town old new node desk goes of =
    let keeps = goes_on_keeps_nodes town old new goes in
    record {
      is = of.is;
      there = omega (arith, keeps.there, of.there);
      bounds = of.bounds;
      of_node = record {
        lo = λ arc legal. of.of_node.lo arc legal ∙ sym (ap (λ (f : ℕ → ℕ). f arc) (keeps.lo node of.there));
        hi = λ arc legal. of.of_node.hi arc legal ∙ sym (ap (λ (f : ℕ → ℕ). f arc) (keeps.hi node of.there));
      };
    }

pub desk_stays : (a b : Search) (node : ℕ) (desk : Desk) → Advances a b → IsDeskOf a.keep.town a.keep.records node desk → IsDeskOf b.keep.town b.keep.records node desk
desk_stays a b node desk goes of =
    subst (λ (t : Town). IsDeskOf t b.keep.records node desk) (sym goes.town)
    (box_stays a.keep.town a.keep.records b.keep.records node desk goes.list of)
