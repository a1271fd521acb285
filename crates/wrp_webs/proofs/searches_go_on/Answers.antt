use Rattle.wrp_webs.proofs.Search.{search_begins, taken, search_heavy, dropped_less, search_split, split_less, search_ends}
use Rattle.wrp_webs.proofs.searches_go_on.Goals as goal

pub returns : goal.returns
returns c = record {
  first = search_begins;
  taken = taken;
  heavy = λ web bound rest item u s t now is least heavy. (search_heavy web bound rest item now u s t is least heavy, dropped_less web bound rest item now);
  even = λ web bound rest item one two u s t now is least even first second. (search_split web bound rest item now u s t is least one two even first second, split_less web bound rest item now u s t is least one two even first second);
  ends = search_ends;
}
