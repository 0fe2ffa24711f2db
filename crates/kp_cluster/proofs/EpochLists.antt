-- Epochs along lists of entries.
use Rattle.std.proofs.Common.{◌≡◌, ℕ, ◌+◌, ◌≤◌, ◌<◌, Bool, true, false, ◌⊎◌, inl, inr, List, [], ◌∷◌, Option, Some, None, refl, ap, sym, ◌∙◌, true≢false, arith}
use Rattle.std.specs.Option.{option_map}
use Rattle.std.specs.Ordering.{nat_cmp}
use Rattle.std.specs.FinMap as map
use Rattle.kp_model.specs.declared.session.Session.{Session}
use Rattle.kp_model.specs.declared.reply.Reply.TheVariants as reply
use Rattle.kp_model.specs.LogEntry.{LogEntry}
use Rattle.kp_model.specs.State.{State, empty}
use Rattle.kp_model.specs.Step.{apply}
use Rattle.kp_model.specs.Store.{after}
use Rattle.kp_model.proofs.Maps.{same_value, no_value}
use Rattle.kp_cluster.specs.Epochs.{IsNumbered, epoch_of, attaches, EpochsGoOn, EpochsNeverFall, GoneForGood, StatesAreNumbered}
use Rattle.kp_cluster.proofs.EpochKeeping.{Remains}
use Rattle.kp_cluster.proofs.EpochEntries.{Going, apply_goes}

abbrev pub raised : State → State
raised s = record s { applied = s.applied + 1 }

-- the session and its epoch
abbrev pub epoch_in : Option Session → Option ℕ
epoch_in o = option_map (λ (x : Session). x.epoch) o

pub found : (o : Option Session) (n : ℕ) → epoch_in o ≡ Some n → (x : Session) × ((o ≡ Some x) × (x.epoch ≡ n))
found None n e = absurd (no_value n (sym e))
found (Some x) n e = (x, (refl, same_value x.epoch n e))

pub not_found : (o : Option Session) → epoch_in o ≡ None → o ≡ None
not_found None e = refl
not_found (Some x) e = absurd (no_value x.epoch e)

-- where a session remains
rem_epoch : (o p : Option Session) (n : ℕ) → Remains o p → epoch_in o ≡ Some n → (epoch_in p ≡ Some n) ⊎ (epoch_in p ≡ None)
rem_epoch o None n r e = inr refl
rem_epoch None (Some y) n r e = absurd r
rem_epoch (Some x) (Some y) n r e = inl (ap Some r.0 ∙ e)

rem_none : (o p : Option Session) → Remains o p → epoch_in o ≡ None → epoch_in p ≡ None
rem_none o None r e = refl
rem_none None (Some y) r e = absurd r
rem_none (Some x) (Some y) r e = absurd (no_value x.epoch e)

rem_below : (o p : Option Session) (id n m : ℕ) (y : Session) → Remains o p → p ≡ Some y → ((x : Session) → o ≡ Some x → id < n) → n ≤ m → id < m
rem_below o None id n m y r e f l = absurd (no_value y (sym e))
rem_below None (Some z) id n m y r e f l = absurd r
rem_below (Some x) (Some z) id n m y r e f l = let lt = f x refl in omega (arith, lt, l)

clash : {A : Type 0} (b : Bool) → b ≡ true → b ≡ false → A
clash b e f = absurd (true≢false (sym e ∙ f))

module _ (s : State) (e : LogEntry) (id : ℕ) (numbered : IsNumbered s) where
  abbrev G : Type 0
  G = Going (raised s) e.body (apply s e) id

  -- a session that lives has a number below the next
  lives_below : (x : Session) → map.get s.sessions id ≡ Some x → id ≡ s.next → ⊥
  lives_below x there same = let lt = numbered id x there in omega (arith, lt, same)

  rises_by : G → attaches id e.body (apply s e).reply ≡ true → (n : ℕ) × ((epoch_of s id ≡ Some n) × ((epoch_of (apply s e).state id ≡ Some (n + 1)) × ((apply s e).reply ≡ reply.Epoch (n + 1))))
  rises_by (inl h) a = clash _ a h.attached
  rises_by (inr (inl h)) a = (h.before.epoch, (ap epoch_in h.was, (ap epoch_in h.is ∙ ap Some h.epoch, h.reply ∙ ap reply.Epoch h.epoch)))
  rises_by (inr (inr h)) a = clash _ a h.attached

  stays_by : G → (n : ℕ) → attaches id e.body (apply s e).reply ≡ false → epoch_of s id ≡ Some n → (epoch_of (apply s e).state id ≡ Some n) ⊎ (epoch_of (apply s e).state id ≡ None)
  stays_by (inl h) n a was = rem_epoch (map.get s.sessions id) (map.get (apply s e).state.sessions id) n h.remains was
  stays_by (inr (inl h)) n a was = clash _ h.attached a
  stays_by (inr (inr h)) n a was = let x = found (map.get s.sessions id) n was in absurd (lives_below x.0 x.1.0 h.first)

  begins_by : G → epoch_of s id ≡ None → (epoch_of (apply s e).state id ≡ None) ⊎ ((id ≡ s.next) × (epoch_of (apply s e).state id ≡ Some 1))
  begins_by (inl h) none = inl (rem_none (map.get s.sessions id) (map.get (apply s e).state.sessions id) h.remains none)
  begins_by (inr (inl h)) none = absurd (no_value h.before (sym h.was ∙ not_found (map.get s.sessions id) none))
  begins_by (inr (inr h)) none = inr (h.first, ap epoch_in h.is ∙ ap Some h.epoch)

  numbered_by : G → (y : Session) → map.get (apply s e).state.sessions id ≡ Some y → id < (apply s e).state.next
  numbered_by (inl h) y there = rem_below (map.get s.sessions id) (map.get (apply s e).state.sessions id) id s.next (apply s e).state.next y h.remains there (λ x. numbered id x) (apply_goes s e).next
  numbered_by (inr (inl h)) y there = let lt = numbered id h.before h.was in let le = (apply_goes s e).next in omega (arith, lt, le)
  numbered_by (inr (inr h)) y there = let n = h.next in let f = h.first in omega (arith, n, f)

pub epochs_go_on : EpochsGoOn
epochs_go_on s e id numbered = let g = (apply_goes s e).each id in record {
  rises = rises_by s e id numbered g;
  stays = stays_by s e id numbered g;
  begins = begins_by s e id numbered g;
}

pub numbered_on : (s : State) (e : LogEntry) → IsNumbered s → IsNumbered (apply s e).state
numbered_on s e numbered id y there = numbered_by s e id numbered ((apply_goes s e).each id) y there

pub next_on : (s : State) (e : LogEntry) → s.next ≤ (apply s e).state.next
next_on s e = (apply_goes s e).next

-- ---- lists

pub numbered_along : (s : State) (es : List LogEntry) → IsNumbered s → IsNumbered (after s es) × (s.next ≤ (after s es).next)
unfolding after
numbered_along s [] numbered = (numbered, omega arith)
numbered_along s (e ∷ es) numbered = let more = numbered_along (apply s e).state es (numbered_on s e numbered) in let le = next_on s e in let on = more.1 in (more.0, omega (arith, le, on))

gone_by : (s : State) (e : LogEntry) (id : ℕ) → id < s.next → (epoch_of (apply s e).state id ≡ None) ⊎ ((id ≡ s.next) × (epoch_of (apply s e).state id ≡ Some 1)) → epoch_of (apply s e).state id ≡ None
gone_by s e id lt (inl none) = none
gone_by s e id lt (inr h) = let same = h.0 in absurd (omega (arith, lt, same))

pub gone_for_good : GoneForGood
unfolding after
gone_for_good s [] id numbered lt none = none
gone_for_good s (e ∷ es) id numbered lt none = let le = next_on s e in
    gone_for_good (apply s e).state es id (numbered_on s e numbered) (omega (arith, lt, le)) (gone_by s e id lt ((epochs_go_on s e id numbered).begins none))

pub none_later : {A : Type 0} (n : ℕ) (o : Option ℕ) → o ≡ Some n → o ≡ None → A
none_later n o e f = absurd (no_value n (sym e ∙ f))

-- behind one entry, where it holds of all others from there on
stayed_by : (s : State) (e : LogEntry) (es : List LogEntry) (id m n : ℕ) → IsNumbered s → epoch_of s id ≡ Some m → epoch_of (after (apply s e).state es) id ≡ Some n
    → (epoch_of (apply s e).state id ≡ Some m) ⊎ (epoch_of (apply s e).state id ≡ None) → ((k : ℕ) → epoch_of (apply s e).state id ≡ Some k → k ≤ n) → m ≤ n
stayed_by s e es id m n numbered was is (inl there) on = on m there
stayed_by s e es id m n numbered was is (inr none) on = let x = found (map.get s.sessions id) m was in let lt = numbered id x.0 x.1.0 in let le = next_on s e in
    none_later n (epoch_of (after (apply s e).state es) id) is (gone_for_good (apply s e).state es id (numbered_on s e numbered) (omega (arith, lt, le)) none)

risen_by : (s : State) (e : LogEntry) (es : List LogEntry) (id m n : ℕ) → IsNumbered s → epoch_of s id ≡ Some m → epoch_of (after (apply s e).state es) id ≡ Some n
    → (b : Bool) → attaches id e.body (apply s e).reply ≡ b → ((k : ℕ) → epoch_of (apply s e).state id ≡ Some k → k ≤ n) → m ≤ n
risen_by s e es id m n numbered was is false a on = stayed_by s e es id m n numbered was is ((epochs_go_on s e id numbered).stays m a was) on
risen_by s e es id m n numbered was is true a on = let r = (epochs_go_on s e id numbered).rises a in let same = same_value m r.0 (sym was ∙ r.1.0) in
    let le = on (r.0 + 1) r.1.1.0 in omega (arith, same, le)

pub epochs_never_fall : EpochsNeverFall
unfolding after
epochs_never_fall s [] id m n numbered was is = let same = same_value m n (sym was ∙ is) in omega (arith, same)
epochs_never_fall s (e ∷ es) id m n numbered was is = risen_by s e es id m n numbered was is (attaches id e.body (apply s e).reply) refl (λ k there. epochs_never_fall (apply s e).state es id k n (numbered_on s e numbered) there is)

pub none_numbered : IsNumbered empty
unfolding empty
none_numbered id x there = absurd (no_value x (sym there ∙ map.get-empty nat_cmp id))

pub states_are_numbered : StatesAreNumbered
states_are_numbered = record { none = none_numbered; all = numbered_along }
