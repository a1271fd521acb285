use Rattle.wrp_webs.proofs.PartSets.{uncrossed_keeps, keeps_uncrossed}
use Rattle.wrp_webs.proofs.ConnFound.{found_parts}
use Rattle.wrp_webs.proofs.parts_are_kept_by_uncrossed_sets.Goals as goal

pub returns : goal.returns
returns c = record {
  keeps = λ town count of named set is first. ((λ uncrossed. uncrossed_keeps town count of is named first set uncrossed), (λ keeps. keeps_uncrossed town count of is named first set keeps));
  serves = found_parts;
}
