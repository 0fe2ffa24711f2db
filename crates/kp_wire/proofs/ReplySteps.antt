-- How a reply is read behind its code.
use Rattle.std.proofs.Common.{◌≡◌, ℤ, pos, Bool, true, false, Ok, refl, sym}
use Rattle.std.specs.Ordering.{int_eq}
use Rattle.std.specs.Bool.{Decides}
use Rattle.std.proofs.lemmas.Bool.Decides.{Decides-int_eq}
use Rattle.kp_jute.specs.Form.{Place}
use Rattle.kp_jute.specs.Jute.{ints}
use Rattle.kp_wire.specs.declared.reply.WireReply.TheVariants as reply
use Rattle.kp_wire.specs.declared.reply.Shape.{Shape}
use Rattle.kp_wire.specs.declared.reply.Shape.TheVariants as shapes
use Rattle.kp_wire.specs.Replies.{granted_as, reply_behind, shape_replies, replies}

shape_replies_is : (s : Shape) (p : Place) → shape_replies s p ≡ reply_behind (granted_as s) p
shape_replies_is shapes.Empty p = refl
shape_replies_is shapes.Path p = refl
shape_replies_is shapes.PathStat p = refl
shape_replies_is shapes.Stat p = refl
shape_replies_is shapes.Data p = refl
shape_replies_is shapes.Acl p = refl
shape_replies_is shapes.Names p = refl
shape_replies_is shapes.NamesStat p = refl
shape_replies_is shapes.Multi p = refl

-- behind the code 0 the body is read
pub done_is : (s : Shape) (p q : Place) → ints.read p ≡ Ok (pos 0, q) → (replies s).read p ≡ shape_replies s q
done_is s p q h = rw h (sym (shape_replies_is s q))

int_differs : (b : Bool) (z : ℤ) → Decides b (z ≡ pos 0) → ¬ (z ≡ pos 0) → b ≡ false
int_differs true z d h = absurd (h (d.0 refl))
int_differs false z d h = refl

-- behind another code nothing is read
pub refused_is : (s : Shape) (p q : Place) (z : ℤ) → ints.read p ≡ Ok (z, q) → ¬ (z ≡ pos 0) → (replies s).read p ≡ Ok (reply.Err z, q)
refused_is s p q z h other = rw (h, int_differs (int_eq z (pos 0)) z (Decides-int_eq z (pos 0)) other) refl
