-- Types and their numbers: each number names one type, whose number it is.
use Rattle.std.proofs.Common.{◌≡◌, ℤ, pos, negsuc, Bool, true, false, cond, Option, Some, None, refl, sym, ap, ◌∙◌, option_map}
use Rattle.std.specs.Ordering.{int_eq}
use Rattle.std.proofs.lemmas.Bool.Decides.{Decides-int_eq}
use Rattle.kp_jute.specs.Form.{Lawful}
use Rattle.kp_jute.specs.Jute.{ints}
use Rattle.kp_jute.proofs.Numbers.{ints_lawful}
use Rattle.kp_jute.proofs.Cases.{narrowed_lawful}
use Rattle.kp_wire.specs.declared.kind.Kind.{Kind}
use Rattle.kp_wire.specs.declared.kind.Kind.TheVariants as kinds
use Rattle.kp_wire.specs.declared.op_kind.OpKind.{OpKind}
use Rattle.kp_wire.specs.declared.op_kind.OpKind.TheVariants as op_kinds
use Rattle.kp_wire.specs.declared.kind.LookKind.{LookKind}
use Rattle.kp_wire.specs.declared.kind.LookKind.TheVariants as looks
use Rattle.kp_wire.specs.Kinds.{kind_number, kind_of, plain_kind_of, look_or_plain, op_or_other, look_number, look_named, kind_forms}
use Rattle.kp_wire.specs.OpKinds.{op_number, op_named}
use Rattle.kp_wire.specs.Request.{step_number, step_named, step_kinds}

same : (a b : ℤ) → int_eq a b ≡ true → a ≡ b
same a b e = (Decides-int_eq a b).0 e

abbrev some : {A : Type 0} → A → Option A
some x = Some x

pub some_is : {A : Type 0} (x y : A) → some x ≡ some y → x ≡ y
some_is x y e = cc

-- ---- types of operations

op_one : (z n : ℤ) (k m : OpKind) (r : Option OpKind) → op_number k ≡ n → (r ≡ Some m → op_number m ≡ z) → (b : Bool) → int_eq z n ≡ b → cond b (Some k) r ≡ Some m → op_number m ≡ z
op_one z n k m r own t true eq e = ap op_number (sym (some_is k m e)) ∙ own ∙ sym (same z n eq)
op_one z n k m r own t false eq e = t e

pub op_back : (z : ℤ) (m : OpKind) → op_named z ≡ Some m → op_number m ≡ z
unfolding op_named
op_back z m = op_one z (pos 1) op_kinds.Create m _ refl (op_one z (pos 2) op_kinds.Delete m _ refl (op_one z (pos 5) op_kinds.SetData m _ refl (op_one z (pos 13) op_kinds.Check m _ refl (op_one z (pos 15) op_kinds.Create2 m None refl (λ e. absurd cc) (int_eq z (pos 15)) refl) (int_eq z (pos 13)) refl) (int_eq z (pos 5)) refl) (int_eq z (pos 2)) refl) (int_eq z (pos 1)) refl

step_some : (z : ℤ) (o : Option OpKind) (s : Option OpKind) → ((m : OpKind) → o ≡ Some m → op_number m ≡ z) → option_map (λ k. Some k) o ≡ Some s → step_number s ≡ z
step_some z None s h e = absurd cc
step_some z (Some k) s h e = ap step_number (sym (some_is (Some k) s e)) ∙ h k refl

step_back_in : (z : ℤ) (s : Option OpKind) (b : Bool) → int_eq z (negsuc 0) ≡ b → cond b (Some None) (option_map (λ k. Some k) (op_named z)) ≡ Some s → step_number s ≡ z
step_back_in z s true eq e = ap step_number (sym (some_is None s e)) ∙ sym (same z (negsuc 0) eq)
step_back_in z s false eq e = step_some z (op_named z) s (op_back z) e

pub step_there : (s : Option OpKind) → step_named (step_number s) ≡ Some s
unfolding op_named
step_there None = refl
step_there (Some op_kinds.Create) = refl
step_there (Some op_kinds.Delete) = refl
step_there (Some op_kinds.SetData) = refl
step_there (Some op_kinds.Check) = refl
step_there (Some op_kinds.Create2) = refl

pub step_kinds_lawful : Lawful step_kinds
step_kinds_lawful = narrowed_lawful step_named step_number ints (λ z s e. step_back_in z s (int_eq z (negsuc 0)) refl e) ints_lawful

-- ---- types of requests

look_one : (z n : ℤ) (k m : LookKind) (r : Option LookKind) → look_number k ≡ n → (r ≡ Some m → look_number m ≡ z) → (b : Bool) → int_eq z n ≡ b → cond b (Some k) r ≡ Some m → look_number m ≡ z
look_one z n k m r own t true eq e = ap look_number (sym (some_is k m e)) ∙ own ∙ sym (same z n eq)
look_one z n k m r own t false eq e = t e

look_back : (z : ℤ) (m : LookKind) → look_named z ≡ Some m → look_number m ≡ z
unfolding look_named
look_back z m = look_one z (pos 3) looks.Exists m _ refl (look_one z (pos 4) looks.GetData m _ refl (look_one z (pos 8) looks.GetChildren m _ refl (look_one z (pos 12) looks.GetChildren2 m None refl (λ e. absurd cc) (int_eq z (pos 12)) refl) (int_eq z (pos 8)) refl) (int_eq z (pos 4)) refl) (int_eq z (pos 3)) refl

-- a type that is chosen where the number is its own
one_in : (z n : ℤ) (k r : Kind) → kind_number k ≡ n → kind_number r ≡ z → (b : Bool) → int_eq z n ≡ b → kind_number (cond b k r) ≡ z
one_in z n k r own t true e = own ∙ sym (same z n e)
one_in z n k r own t false e = t

one : (z n : ℤ) (k r : Kind) → kind_number k ≡ n → kind_number r ≡ z → kind_number (cond (int_eq z n) k r) ≡ z
one z n k r own t = one_in z n k r own t (int_eq z n) refl

plain_back : (z : ℤ) → kind_number (plain_kind_of z) ≡ z
unfolding plain_kind_of
plain_back z = one z (pos 6) kinds.GetAcl _ refl (one z (pos 7) kinds.SetAcl _ refl (one z (pos 9) kinds.Sync _ refl (one z (pos 11) kinds.Ping _ refl (one z (pos 14) kinds.Multi _ refl (one z (pos 100) kinds.Auth _ refl (one z (pos 101) kinds.SetWatches _ refl (one z (negsuc 10) kinds.CloseSession (kinds.Other z) refl refl)))))))

look_or_plain_back : (z : ℤ) (o : Option LookKind) → look_named z ≡ o → kind_number (look_or_plain o z) ≡ z
look_or_plain_back z (Some l) e = look_back z l e
look_or_plain_back z None e = plain_back z

op_or_other_back : (z : ℤ) (o : Option OpKind) → op_named z ≡ o → kind_number (op_or_other o z) ≡ z
op_or_other_back z (Some k) e = op_back z k e
op_or_other_back z None e = look_or_plain_back z (look_named z) refl

kind_back : (z : ℤ) → kind_number (kind_of z) ≡ z
unfolding kind_of
kind_back z = op_or_other_back z (op_named z) refl

op_there : (k : OpKind) → kind_of (op_number k) ≡ kinds.Op k
unfolding kind_of op_named
op_there op_kinds.Create = refl
op_there op_kinds.Delete = refl
op_there op_kinds.SetData = refl
op_there op_kinds.Check = refl
op_there op_kinds.Create2 = refl

look_there : (l : LookKind) → kind_of (look_number l) ≡ kinds.Look l
unfolding kind_of op_named look_named
look_there looks.Exists = refl
look_there looks.GetData = refl
look_there looks.GetChildren = refl
look_there looks.GetChildren2 = refl

-- each type but an other one is the one that its number names
pub as_named : (k : Kind) → ((n : ℤ) → k ≡ kinds.Other n → ⊥) → kind_of (kind_number k) ≡ k
unfolding kind_of op_named look_named plain_kind_of
as_named (kinds.Op k) h = op_there k
as_named (kinds.Look l) h = look_there l
as_named kinds.GetAcl h = refl
as_named kinds.SetAcl h = refl
as_named kinds.Sync h = refl
as_named kinds.Ping h = refl
as_named kinds.Multi h = refl
as_named kinds.Auth h = refl
as_named kinds.SetWatches h = refl
as_named kinds.CloseSession h = refl
as_named (kinds.Other z) h = absurd (h z refl)

-- a number that names an other type names the one of itself
pub other_there : (z n : ℤ) → kind_of z ≡ kinds.Other n → kind_of z ≡ kinds.Other z
other_there z n e = e ∙ ap (λ (m : ℤ). kinds.Other m) (sym (ap kind_number e) ∙ kind_back z)

pub kinds_lawful : Lawful kind_forms
kinds_lawful = narrowed_lawful (λ z. Some (kind_of z)) kind_number ints (λ z k e. ap kind_number (sym (some_is (kind_of z) k e)) ∙ kind_back z) ints_lawful
