use Rattle.std.proofs.Common.{◌≡◌, ◌*◌, ℕ, List, length, map, ap, sym, ◌∙◌, arith, subst}
use Rattle.std.specs.List.{All, flat_map, range_with_len}
use Rattle.wrp_town.specs.Arcs.{arcs}
use Rattle.wrp_rules.specs.Rows.{balance_row}
use Rattle.wrp_rows.specs.Pools.{SparseRow, sparse_of}
use Rattle.wrp_rows.specs.Sizes.{IsSmallRow}
use Rattle.wrp_rows.specs.Base.{ends_at}
use Rattle.wrp_rows.proofs.BaseRows.{base_kept, balance_more, star_at, star_there, star_below, small_base}
use Rattle.wrp_rows.proofs.base.base_rows.Goals as goal

pub bucket-requires : goal.bucket-requires
bucket-requires c =
    let town = c.args.town.now in
    star_there (length town.junctions) c.loop-junction.junction (flat_map (ends_at town) (arcs town)) c.in_ok-stars.stars c.in_ok-stars.ensures (omega arith)

pub push_balance-requires : goal.push_balance-requires
push_balance-requires c =
    let town = c.args.town.now in
    let j = c.loop-junction.junction in
    star_below town j c.bucket.result.now (c.bucket.ensures ∙ star_at (length town.junctions) j (flat_map (ends_at town) (arcs town)) c.in_ok-stars.stars c.in_ok-stars.ensures (omega arith))

pub loop-junction-preserved : goal.loop-junction-preserved
loop-junction-preserved c =
    let town = c.args.town.now in
    let j = c.loop-junction.junction in
    balance_more town j c.loop-junction.table c.push_balance.new.table c.bucket.result.now c.loop-junction.invariant
    (c.bucket.ensures ∙ star_at (length town.junctions) j (flat_map (ends_at town) (arcs town)) c.in_ok-stars.stars c.in_ok-stars.ensures (omega arith))
    c.in_ok-push_balance.ensures

pub returns-clause-rows : goal.returns-clause-rows
returns-clause-rows c =
    let town = c.args.town.now in
    let all : c.loop-junction.junction ≡ length town.junctions = omega arith in
    base_kept town c.loop-junction.table c.push_services.new.table
    (c.loop-junction.invariant ∙ ap (λ (n : ℕ). map (λ (j : ℕ). sparse_of town (balance_row town j)) (range_with_len 0 n)) all) c.in_ok-push_services.ensures

pub returns-clause-small : goal.returns-clause-small
returns-clause-small c =
    let town = c.args.town.now in
    let all : c.loop-junction.junction ≡ length town.junctions = omega arith in
    subst (λ (rows : List SparseRow). All (IsSmallRow (2 * length town.streets)) rows)
    (sym (base_kept town c.loop-junction.table c.push_services.new.table
    (c.loop-junction.invariant ∙ ap (λ (n : ℕ). map (λ (j : ℕ). sparse_of town (balance_row town j)) (range_with_len 0 n)) all) c.in_ok-push_services.ensures))
    (small_base town)
