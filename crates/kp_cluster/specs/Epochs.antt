-- The epochs of a session along a list of entries.
use Rattle.std.specs.Prelude.{◌≡◌, ◌≤◌, ◌<◌, ◌⊎◌, ℕ, ◌+◌, ◌-◌, ◌==◌, Bool, true, false, List, [], ◌∷◌, ◌++◌, length, take, slice_get, Option, Some, None}
use Rattle.std.specs.Option.{option_map}
use Rattle.std.specs.FinMap as map
use Rattle.kp_model.specs.declared.entry.Body.{Body}
use Rattle.kp_model.specs.declared.entry.Body.TheVariants as body
use Rattle.kp_model.specs.declared.reply.Reply.{Reply}
use Rattle.kp_model.specs.declared.reply.Reply.TheVariants as reply
use Rattle.kp_model.specs.declared.session.Session.{Session}
use Rattle.kp_model.specs.declared.session.Origin.{Origin}
use Rattle.kp_model.specs.LogEntry.{LogEntry}
use Rattle.kp_model.specs.State.{State, empty}
use Rattle.kp_model.specs.Step.{apply}
use Rattle.kp_model.specs.Store.{after}

-- each session has a number that was given out
abbrev pub IsNumbered : State → Type 0
IsNumbered s = (id : ℕ) (x : Session) → map.get s.sessions id ≡ Some x → id < s.next

-- the epoch of a session, and None where there is no such session
abbrev pub epoch_of : State → ℕ → Option ℕ
epoch_of s id = option_map (λ (x : Session). x.epoch) (map.get s.sessions id)

-- whether an entry with this reply is an attach of the session that wasn't refused
abbrev pub attaches : ℕ → Body → Reply → Bool
attaches id (body.Attach session passwd origin) (reply.Epoch epoch) = session == id
attaches id b r = false

-- what an entry makes of the epoch of a session
pub record EpochGoesOn (s : State) (e : LogEntry) (id : ℕ) : Type 0 where
  -- an attach of it that isn't refused raises it by one, and is answered the new one
  pub rises : attaches id e.body (apply s e).reply ≡ true → (n : ℕ) × ((epoch_of s id ≡ Some n) × ((epoch_of (apply s e).state id ≡ Some (n + 1)) × ((apply s e).reply ≡ reply.Epoch (n + 1))))
  -- of any other entry a session that lives stays in its epoch, or ends
  pub stays : (n : ℕ) → attaches id e.body (apply s e).reply ≡ false → epoch_of s id ≡ Some n → (epoch_of (apply s e).state id ≡ Some n) ⊎ (epoch_of (apply s e).state id ≡ None)
  -- one that doesn't live isn't there either, or it has the next number that is given out, and epoch 1
  pub begins : epoch_of s id ≡ None → (epoch_of (apply s e).state id ≡ None) ⊎ ((id ≡ s.next) × (epoch_of (apply s e).state id ≡ Some 1))

abbrev pub EpochsGoOn : Type 0
EpochsGoOn = (s : State) (e : LogEntry) (id : ℕ) → IsNumbered s → EpochGoesOn s e id

-- while a session lives its epoch never falls
abbrev pub EpochsNeverFall : Type 0
EpochsNeverFall = (s : State) (es : List LogEntry) (id m n : ℕ) → IsNumbered s → epoch_of s id ≡ Some m → epoch_of (after s es) id ≡ Some n → m ≤ n

-- a session whose number was given out and that is gone stays so
abbrev pub GoneForGood : Type 0
GoneForGood = (s : State) (es : List LogEntry) (id : ℕ) → IsNumbered s → id < s.next → epoch_of s id ≡ None → epoch_of (after s es) id ≡ None

-- numbers go on to be given out in their order
pub record StatesAreNumbered : Type 0 where
  pub none : IsNumbered empty
  pub all : (s : State) (es : List LogEntry) → IsNumbered s → IsNumbered (after s es) × (s.next ≤ (after s es).next)

-- ---- the last epoch of a session

abbrev pub newer : Option ℕ → Option ℕ → Option ℕ
newer old None = old
newer old (Some n) = Some n

-- along the entries from a state on, where it had this one before
unfoldable pub last_epoch_from : Option ℕ → State → List LogEntry → ℕ → Option ℕ
last_epoch_from old s [] id = newer old (epoch_of s id)
last_epoch_from old s (e ∷ es) id = last_epoch_from (newer old (epoch_of s id)) (apply s e).state es id

-- the epoch that a session has behind the entries, or had last where it is gone; None where it never lived from this state on
abbrev pub last_epoch : State → List LogEntry → ℕ → Option ℕ
last_epoch s es id = last_epoch_from None s es id

-- ---- one list of entries from the empty state on

-- the entry of index i + 1 is an attach of the session that isn't refused, and gives it this epoch
pub record IsAttach (es : List LogEntry) (i id epoch : ℕ) : Type 0 where
  pub entry : LogEntry
  pub there : slice_get es i ≡ Some entry
  pub passwd : List ℕ
  pub origin : Origin
  pub body : entry.body ≡ body.Attach id passwd origin
  pub reply : (apply (after empty (take i es)) entry).reply ≡ reply.Epoch epoch

-- what shows index z is of the last epoch that the session had behind z entries, or behind one less
abbrev pub IsShown : List LogEntry → ℕ → ℕ → ℕ → Type 0
IsShown es z id epoch = (last_epoch empty (take z es) id ≡ Some epoch) ⊎ (last_epoch empty (take (z - 1) es) id ≡ Some epoch)

-- what is of an older epoch shows at most the index of the attach, and what is of its epoch or a newer one at least that
abbrev pub NoneCrosses : Type 0
NoneCrosses = (es : List LogEntry) (z i id epoch new : ℕ) → IsShown es z id epoch → IsAttach es i id new → (epoch < new → z ≤ i + 1) × (new ≤ epoch → i + 1 ≤ z)

-- what is shown on the beginning of a list is shown on the whole
abbrev pub BeginningsShow : Type 0
BeginningsShow = (es more : List LogEntry) (z id epoch : ℕ) → z ≤ length es → IsShown es z id epoch → IsShown (es ++ more) z id epoch
