-- What is kept of an image while it is read or written, so that the next field can be judged.
use Rattle.std.specs.Prelude.{◌≡◌, ℕ, ◌==◌, ◌&&◌, Bool, true, false, List, [], ◌∷◌, ◌++◌, Result, Ok, Err}
use Rattle.std.specs.List.{list_all, list_any}
use Rattle.std.specs.Ordering.{is_lt}
use Rattle.std.specs.HashSet.{HashSet, contains}
use Rattle.kp_model.specs.declared.session.Origin.{Origin}
use Rattle.kp_model.specs.State.{path_cmp, same_origin}
use Rattle.kp_model.specs.Path.{is_empty}
use Rattle.kp_jute.specs.declared.fault.JuteFail.{JuteFail}
use Rattle.kp_jute.specs.Form.{Place, Fails}
use Rattle.kp_snapshot.specs.declared.known.Holder.{Holder}
use Rattle.kp_snapshot.specs.Rules.{Numbered, Placed, numbers_of, holders_of, is_open}
use Rattle.kp_snapshot.specs.Ups.{AreUps, NoneBehind}

-- ---- sessions

-- the next session number, and the numbers and the holders of the sessions so far
pub record Sessions : Type 0 where
  pub next : ℕ
  pub ids : List ℕ
  pub holders : List Origin

abbrev pub knowing : ℕ → List Numbered → Sessions
knowing next ss = record { next = next; ids = numbers_of ss; holders = holders_of ss }

-- with one session more
abbrev pub knowing_more : Sessions → Numbered → Sessions
knowing_more k s = record k { ids = k.ids ++ s.0 ∷ []; holders = k.holders ++ s.1.holder ∷ [] }

abbrev pub holder_of : Origin → Holder
holder_of o = record { node = o.node; boot = o.boot; conn = o.conn }

abbrev pub same_holder : Holder → Holder → Bool
same_holder a b = a.node == b.node && (a.boot == b.boot && a.conn == b.conn)

-- the set has the holders of the list
abbrev pub HasEach : {S : Type 0} → HashSet Holder S → List Origin → Type 0
HasEach set os = (o : Origin) → contains same_holder set (holder_of o) ≡ list_any (λ b. same_origin b o) os

-- ---- nodes

-- the last of these nodes has this path, and the others are before it
pub record EndsAt (before : List Placed) (last : List ℕ) : Type 0 where
  pub some : is_empty last ≡ false
  pub order : (p : List ℕ) → list_all (λ (n : Placed). is_lt (path_cmp n.0 p)) before ≡ is_lt (path_cmp last p)
  pub none : NoneBehind (is_open before) last

-- before the first node the last path is empty
abbrev pub Tracks : List Placed → List ℕ → Type 0
Tracks [] last = is_empty last ≡ true
Tracks (x ∷ xs) last = EndsAt (x ∷ xs) last

-- the last path, and the lengths of those of its beginnings that are nodes without owner
abbrev pub Stand : List Placed → List ℕ → List ℕ → Type 0
Stand before last ups = Tracks before last × AreUps (is_open before) last ups

-- ---- what a call of a reader answers that doesn't give the value

-- the reading gives a value with which the answer fits, and the place behind it; else the refusal is that of the reading
abbrev pub Finds : {X Y : Type 0} → (X → Y → Type 0) → Result X JuteFail → Place → Result (Y × Place) JuteFail → Type 0
Finds {X} {Y} fits (Ok x) new read = (y : Y) × (read ≡ Ok (y, new)) × fits x y
Finds fits (Err e) new read = Fails e read

-- the same of an answer that has no place
abbrev pub Tells : {X Y : Type 0} → (X → Y → Type 0) → Result X JuteFail → Result Y JuteFail → Type 0
Tells {X} {Y} fits (Ok x) read = (y : Y) × (read ≡ Ok y) × fits x y
Tells fits (Err e) read = Fails e read
