use Rattle.std.proofs.Common.{◌≡◌, ◌+◌, ◌≤◌, ◌++◌, length, map, true}
use Rattle.std.specs.List.{list_all}
use Rattle.std.specs.Str.Lines.{lines}
use Rattle.wrp_turn.specs.Turns.{follows}
use Rattle.wrp_turn.specs.BanFiles.{ban_in, first_wrong, wrong_file, bans_in}
use Rattle.wrp_turn.proofs.bans.read_bans.Given as goal

-- what is wrong with the lines that are left, and the bans so far with those that are left
abbrev pub invariant-loop-line : goal.invariant-loop-line
invariant-loop-line l = record {
  wrong : first_wrong l.town l.number (lines l.left) ≡ wrong_file l.town l.fn.bytes;
  bans : l.list ++ map ban_in (lines l.left) ≡ bans_in l.fn.bytes;
  follow : list_all (λ ban. follows l.town ban.0 ban.1) l.list ≡ true;
  few : l.number + length l.left ≤ 1 + length l.fn.bytes;
  fewer : length l.list + length l.left ≤ length l.fn.bytes;
}

abbrev pub decreases-loop-line : goal.decreases-loop-line
decreases-loop-line l = length l.left
