-- The empty state is sound.
use Rattle.std.proofs.Common.{ℕ, List, refl, sym, ◌∙◌, true≢false, zero-le, arith}
use Rattle.std.specs.Ordering.{nat_cmp}
use Rattle.std.specs.Cmp.Lexicographic.{nat_list_cmp_total}
use Rattle.std.specs.FinMap as map
use Rattle.kp_model.specs.declared.node.Node.{Node}
use Rattle.kp_model.specs.declared.session.Session.{Session}
use Rattle.kp_model.specs.Path.{root}
use Rattle.kp_model.specs.State.{path_cmp, blank_node, empty}
use Rattle.kp_model.specs.Good.{HasOwner, HasPlace, HasNumbers, IsGood, IsSound}
use Rattle.kp_model.proofs.Maps.{Each, no_value, get_inserted, each_inserted}
use Rattle.kp_model.proofs.GoodParts.{path_cmp-IsAntisymmetric}

no_node : (P : List ℕ → Node → Type 0) → Each P (map.empty {X = Node} {R = path_cmp})
no_node P q x found = absurd (no_value x (sym found ∙ map.get-empty path_cmp q))

no_session : (P : ℕ → Session → Type 0) → Each P (map.empty {X = Session} {R = nat_cmp})
no_session P q x found = absurd (no_value x (sym found ∙ map.get-empty nat_cmp q))

blank_numbers : HasNumbers 0 blank_node
blank_numbers = record {
  czxid = zero-le;
  mzxid = zero-le;
  pzxid = zero-le;
  ctime = refl;
  mtime = refl;
  version = zero-le;
  cversion = zero-le;
  aversion = zero-le;
  created = zero-le;
  bytes = refl;
  perms = refl;
}

empty_good : IsGood empty
unfolding empty
empty_good = record {
  applied = refl;
  next = refl;
  some = omega arith;
  root_there = (blank_node, get_inserted nat_list_cmp_total path_cmp-IsAntisymmetric map.empty root blank_node, refl);
  places = each_inserted nat_list_cmp_total path_cmp-IsAntisymmetric (λ p _. HasPlace (map.insert map.empty root blank_node) p) map.empty root blank_node
      (λ deep. absurd (true≢false deep)) (no_node _);
  owners = each_inserted nat_list_cmp_total path_cmp-IsAntisymmetric (λ _ n. HasOwner map.empty n) map.empty root blank_node (λ owned. absurd (true≢false owned)) (no_node _);
  numbers = each_inserted nat_list_cmp_total path_cmp-IsAntisymmetric (λ _ n. HasNumbers 0 n) map.empty root blank_node blank_numbers (no_node _);
  sessions = no_session _;
}

pub empty_sound : IsSound empty
unfolding empty
empty_sound = record {
  good = empty_good;
  holders = λ a b x y here there one. absurd (no_value x (sym here ∙ map.get-empty nat_cmp a));
}
