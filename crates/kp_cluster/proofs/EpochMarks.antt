-- The last epoch of a session never falls along a list of entries.
use Rattle.std.proofs.Common.{◌≡◌, ℕ, zero, suc, ◌+◌, ◌-◌, ◌≤◌, ◌<◌, Bool, true, false, ◌⊎◌, inl, inr, List, [], ◌∷◌, ◌++◌, take, slice_get, Option, Some, None, refl, ap, sym, subst, ◌∙◌, arith}
use Rattle.std.proofs.lemmas.Bool.{eq-eqb}
use Rattle.std.proofs.lemmas.List.{take-append-le}
use Rattle.std.proofs.lemmas.Bool.Decides.{nat_tests}
use Rattle.std.specs.Prelude.{nat_lt}
use Rattle.std.specs.FinMap as map
use Rattle.kp_model.specs.declared.entry.Body.TheVariants as body
use Rattle.kp_model.specs.declared.reply.Reply.{Reply}
use Rattle.kp_model.specs.declared.reply.Reply.TheVariants as reply
use Rattle.kp_model.specs.declared.session.Origin.{Origin}
use Rattle.kp_model.specs.LogEntry.{LogEntry}
use Rattle.kp_model.specs.State.{State, empty}
use Rattle.kp_model.specs.Step.{apply}
use Rattle.kp_model.specs.Store.{after}
use Rattle.kp_model.proofs.Maps.{same_value, no_value}
use Rattle.kp_cluster.specs.Epochs.{IsNumbered, epoch_of, attaches, newer, last_epoch_from, last_epoch, IsAttach, IsShown, NoneCrosses, BeginningsShow}
use Rattle.kp_cluster.proofs.EpochLists.{found, none_later, epochs_go_on, epochs_never_fall, numbered_on, next_on, numbered_along, none_numbered}

abbrev pub Below : Option ℕ → Option ℕ → Type 0
Below None b = Unit {0}
Below (Some m) None = ⊥
Below (Some m) (Some n) = m ≤ n

pub same_below : (a : Option ℕ) → Below a a
same_below None = tt
same_below (Some n) = omega arith

then_below : (a b c : Option ℕ) → Below a b → Below b c → Below a c
then_below None b c f g = tt
then_below (Some m) None c f g = absurd f
then_below (Some m) (Some n) None f g = absurd g
then_below (Some m) (Some n) (Some k) f g = omega (arith, f, g)

-- what is known of a session before a state is no more than the state says
pub record IsKnown (old : Option ℕ) (s : State) (id : ℕ) : Type 0 where
  pub numbered : IsNumbered s
  pub fresh : s.next ≤ id → old ≡ None
  pub fits : (n : ℕ) → epoch_of s id ≡ Some n → Below old (Some n)

newer_below : (old o : Option ℕ) → ((n : ℕ) → o ≡ Some n → Below old (Some n)) → Below old (newer old o)
newer_below old None f = same_below old
newer_below old (Some n) f = f n refl

newer_none : (old o : Option ℕ) → old ≡ None → ((n : ℕ) → o ≡ Some n → ⊥) → newer old o ≡ None
newer_none old None e f = e
newer_none old (Some n) e f = absurd (f n refl)

twice : (old o : Option ℕ) → newer (newer old o) o ≡ newer old o
twice old None = refl
twice old (Some n) = refl

module _ (s : State) (id : ℕ) where
  -- a session whose number wasn't given out doesn't live
  unborn : IsNumbered s → s.next ≤ id → (n : ℕ) → epoch_of s id ≡ Some n → ⊥
  unborn numbered le n there = let x = found (map.get s.sessions id) n there in let lt = numbered id x.0 x.1.0 in omega (arith, lt, le)

  known_now : (old : Option ℕ) → IsKnown old s id → IsKnown (newer old (epoch_of s id)) s id
  known_now old k = record {
    numbered = k.numbered;
    fresh = λ le. newer_none old (epoch_of s id) (k.fresh le) (unborn k.numbered le);
    fits = λ n there. subst (λ o. Below (newer old o) (Some n)) (sym there) (same_below (Some n));
  }

  module _ (e : LogEntry) where
    begun_fits : (old : Option ℕ) (n : ℕ) → IsKnown old s id → epoch_of (apply s e).state id ≡ Some n → (epoch_of (apply s e).state id ≡ None) ⊎ ((id ≡ s.next) × (epoch_of (apply s e).state id ≡ Some 1)) → Below old (Some n)
    begun_fits old n k is (inl none) = none_later n (epoch_of (apply s e).state id) is none
    begun_fits old n k is (inr h) = let same = h.0 in subst (λ o. Below o (Some n)) (sym (k.fresh (omega (arith, same)))) tt

    next_fits : (old o : Option ℕ) (n : ℕ) → epoch_of s id ≡ o → IsKnown old s id → epoch_of (apply s e).state id ≡ Some n → Below (newer old o) (Some n)
    unfolding after
    next_fits old None n was k is = begun_fits old n k is ((epochs_go_on s e id k.numbered).begins was)
    next_fits old (Some m) n was k is = epochs_never_fall s (e ∷ []) id m n k.numbered was is

    known_next : (old : Option ℕ) → IsKnown old s id → IsKnown (newer old (epoch_of s id)) (apply s e).state id
    known_next old k = record {
      numbered = numbered_on s e k.numbered;
      fresh = λ le. let up = next_on s e in (known_now old k).fresh (omega (arith, le, up));
      fits = λ n is. next_fits old (epoch_of s id) n refl k is;
    }

-- ---- along a list

pub marks_rise : (old : Option ℕ) (s : State) (es : List LogEntry) (id : ℕ) → IsKnown old s id → Below (newer old (epoch_of s id)) (last_epoch_from old s es id)
unfolding last_epoch_from
marks_rise old s [] id k = same_below (newer old (epoch_of s id))
marks_rise old s (e ∷ es) id k = let next = known_next s id e old k in let now = newer old (epoch_of s id) in
    then_below now (newer now (epoch_of (apply s e).state id)) (last_epoch_from now (apply s e).state es id)
    (newer_below now (epoch_of (apply s e).state id) next.fits) (marks_rise now (apply s e).state es id next)

-- what begins a list is no later
pub marks_rise_along : (old : Option ℕ) (s : State) (es : List LogEntry) (id i j : ℕ) → i ≤ j → IsKnown old s id → Below (last_epoch_from old s (take i es) id) (last_epoch_from old s (take j es) id)
unfolding last_epoch_from
marks_rise_along old s es id zero j le k = marks_rise old s (take j es) id k
marks_rise_along old s es id (suc i) zero le k = absurd (omega (arith, le))
marks_rise_along old s [] id (suc i) (suc j) le k = same_below (newer old (epoch_of s id))
marks_rise_along old s (e ∷ es) id (suc i) (suc j) le k = marks_rise_along (newer old (epoch_of s id)) (apply s e).state es id i j (omega (arith, le)) (known_next s id e old k)

-- a session that lives has its last epoch
pub lives_last : (old : Option ℕ) (s : State) (es : List LogEntry) (id n : ℕ) → epoch_of (after s es) id ≡ Some n → last_epoch_from old s es id ≡ Some n
unfolding last_epoch_from after
lives_last old s [] id n there = ap (newer old) there
lives_last old s (e ∷ es) id n there = lives_last (newer old (epoch_of s id)) (apply s e).state es id n there

-- one entry more
pub last_push : (old : Option ℕ) (s : State) (es : List LogEntry) (e : LogEntry) (id : ℕ) → last_epoch_from old s (es ++ e ∷ []) id ≡ newer (last_epoch_from old s es id) (epoch_of (apply (after s es) e).state id)
unfolding last_epoch_from after
last_push old s [] e id = refl
last_push old s (d ∷ es) e id = last_push (newer old (epoch_of s id)) (apply s d).state es e id

-- a list behind another
pub last_split : (old : Option ℕ) (s : State) (fs es : List LogEntry) (id : ℕ) → last_epoch_from old s (fs ++ es) id ≡ last_epoch_from (last_epoch_from old s fs id) (after s fs) es id
unfolding last_epoch_from after
last_split old s [] [] id = sym (twice old (epoch_of s id))
last_split old s [] (e ∷ es) id = ap (λ o. last_epoch_from o (apply s e).state es id) (sym (twice old (epoch_of s id)))
last_split old s (f ∷ fs) es id = last_split (newer old (epoch_of s id)) (apply s f).state fs es id

-- what was known before is no matter where the session lived since
pub last_anyhow : (old : Option ℕ) (s : State) (es : List LogEntry) (id n : ℕ) → last_epoch s es id ≡ Some n → last_epoch_from old s es id ≡ Some n
unfolding last_epoch_from
last_anyhow old s es id n e = by_old None old s es id n e (λ m f. none_later m None f refl) where
  by_old : (a b : Option ℕ) (s : State) (es : List LogEntry) (id n : ℕ) → last_epoch_from a s es id ≡ Some n → ((m : ℕ) → a ≡ Some m → b ≡ Some m) → last_epoch_from b s es id ≡ Some n
  by_old a b s [] id n e f = newer_by (epoch_of s id) e where
    newer_by : (o : Option ℕ) → newer a o ≡ Some n → newer b o ≡ Some n
    newer_by None e = f n e
    newer_by (Some k) e = e
  by_old a b s (d ∷ es) id n e f = by_old (newer a (epoch_of s id)) (newer b (epoch_of s id)) (apply s d).state es id n e (newer_all (epoch_of s id)) where
    newer_all : (o : Option ℕ) (m : ℕ) → newer a o ≡ Some m → newer b o ≡ Some m
    newer_all None m e = f m e
    newer_all (Some k) m e = e

-- ---- one list from the empty state on

begin_known : (id : ℕ) → IsKnown None empty id
begin_known id = record { numbered = none_numbered; fresh = λ le. refl; fits = λ n there. tt }

pub after_push : (s : State) (es : List LogEntry) (e : LogEntry) → after s (es ++ e ∷ []) ≡ (apply (after s es) e).state
unfolding after
after_push s [] e = refl
after_push s (d ∷ es) e = after_push (apply s d).state es e

take_more : (es : List LogEntry) (i : ℕ) (e : LogEntry) → slice_get es i ≡ Some e → take (suc i) es ≡ take i es ++ e ∷ []
take_more [] i e there = absurd (no_value e (sym there))
take_more (d ∷ es) zero e there = ap (λ x. x ∷ []) (same_value d e there)
take_more (d ∷ es) (suc i) e there = ap (λ xs. d ∷ xs) (take_more es i e there)

-- what an attach says of the last epochs before it and behind it
pub record Attaches (es : List LogEntry) (i id new : ℕ) : Type 0 where
  pub old : ℕ
  pub before : last_epoch empty (take i es) id ≡ Some old
  pub behind : last_epoch empty (take (suc i) es) id ≡ Some new
  pub one : new ≡ old + 1

abbrev epoch_told : ℕ → Reply → ℕ
epoch_told d (reply.Epoch n) = n
epoch_told d r = d

attach_is : (id : ℕ) (passwd : List ℕ) (origin : Origin) (n : ℕ) → attaches id (body.Attach id passwd origin) (reply.Epoch n) ≡ true
attach_is id passwd origin n = eq-eqb id id refl

pub attach_marks : (es : List LogEntry) (i id new : ℕ) → IsAttach es i id new → Attaches es i id new
attach_marks es i id new a = let s = after empty (take i es) in
    let r = (epochs_go_on s a.entry id (numbered_along empty (take i es) none_numbered).0).rises ((λ j. attaches id (a.body j) (a.reply j)) ∙ attach_is id a.passwd a.origin new) in
    let same : r.0 + 1 ≡ new = ap (epoch_told 0) (sym r.1.1.1 ∙ a.reply) in record {
      old = r.0;
      before = lives_last None empty (take i es) id r.0 r.1.0;
      behind = lives_last None empty (take (suc i) es) id new (ap (λ xs. epoch_of (after empty xs) id) (take_more es i a.entry a.there) ∙ ap (λ t. epoch_of t id) (after_push empty (take i es) a.entry) ∙ r.1.1.0 ∙ ap Some same);
      one = sym same;
    }

below_of : (a b : Option ℕ) (m n : ℕ) → a ≡ Some m → b ≡ Some n → Below a b → m ≤ n
below_of a b m n e f h = subst (λ z. Below (Some m) z) f (subst (λ z. Below z b) e h)

module _ (es : List LogEntry) (id : ℕ) where
  in_order : (i j m n : ℕ) → i ≤ j → last_epoch empty (take i es) id ≡ Some m → last_epoch empty (take j es) id ≡ Some n → m ≤ n
  in_order i j m n le e f = below_of (last_epoch empty (take i es) id) (last_epoch empty (take j es) id) m n e f (marks_rise_along None empty es id i j le (begin_known id))

  older_by : (z i epoch new : ℕ) → IsShown es z id epoch → Attaches es i id new → epoch < new → (b : Bool) → nat_lt (suc i) z ≡ b → z ≤ suc i
  older_by z i epoch new w a lt false e = grind (arith, nat_tests)
  older_by z i epoch new (inl w) a lt true e = let far : suc i < z = grind (arith, nat_tests) in let le = in_order (suc i) z new epoch (omega (arith, far)) a.behind w in absurd (omega (arith, le, lt))
  older_by z i epoch new (inr w) a lt true e = let far : suc i < z = grind (arith, nat_tests) in let le = in_order (suc i) (z - 1) new epoch (omega (arith, far)) a.behind w in absurd (omega (arith, le, lt))

  newer_by : (z i epoch new : ℕ) → IsShown es z id epoch → Attaches es i id new → new ≤ epoch → (b : Bool) → nat_lt z (suc i) ≡ b → suc i ≤ z
  newer_by z i epoch new w a up false e = grind (arith, nat_tests)
  newer_by z i epoch new (inl w) a up true e = let far : z < suc i = grind (arith, nat_tests) in let one = a.one in let le = in_order z i epoch a.old (omega (arith, far)) w a.before in absurd (omega (arith, le, up, one))
  newer_by z i epoch new (inr w) a up true e = let far : z < suc i = grind (arith, nat_tests) in let one = a.one in let le = in_order (z - 1) i epoch a.old (omega (arith, far)) w a.before in absurd (omega (arith, le, up, one))

pub none_crosses : NoneCrosses
none_crosses es z i id epoch new w a = let m = attach_marks es i id new a in
    ((λ lt. let r = older_by es id z i epoch new w m lt (nat_lt (suc i) z) refl in omega (arith, r)), (λ up. let r = newer_by es id z i epoch new w m up (nat_lt z (suc i)) refl in omega (arith, r)))

pub beginnings_show : BeginningsShow
beginnings_show es more z id epoch le (inl h) = inl (ap (λ xs. last_epoch empty xs id) (take-append-le z es more le) ∙ h)
beginnings_show es more z id epoch le (inr h) = inr (ap (λ xs. last_epoch empty xs id) (take-append-le (z - 1) es more (omega (arith, le))) ∙ h)

get_longer : (es more : List LogEntry) (i : ℕ) (e : LogEntry) → slice_get es i ≡ Some e → slice_get (es ++ more) i ≡ Some e
get_longer [] more i e there = absurd (no_value e (sym there))
get_longer (d ∷ es) more zero e there = there
get_longer (d ∷ es) more (suc i) e there = get_longer es more i e there

take_longer : (es more : List LogEntry) (i : ℕ) (e : LogEntry) → slice_get es i ≡ Some e → take i (es ++ more) ≡ take i es
take_longer [] more i e there = absurd (no_value e (sym there))
take_longer (d ∷ es) more zero e there = refl
take_longer (d ∷ es) more (suc i) e there = ap (λ xs. d ∷ xs) (take_longer es more i e there)

-- an attach on the beginning of a list is one on the whole
pub attach_longer : (es more : List LogEntry) (i id new : ℕ) → IsAttach es i id new → IsAttach (es ++ more) i id new
attach_longer es more i id new a = record {
  entry = a.entry;
  there = get_longer es more i a.entry a.there;
  passwd = a.passwd;
  origin = a.origin;
  body = a.body;
  reply = ap (λ xs. (apply (after empty xs) a.entry).reply) (take_longer es more i a.entry a.there) ∙ a.reply;
}
