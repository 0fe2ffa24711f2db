-- What is handed in to a leader stands at its desk.
use Rattle.std.proofs.Common.{◌≡◌, ℕ, suc, ◌+◌, ◌-◌, ◌≤◌, ◌<◌, ◌^◌, true, false, ◌&&◌, nat_lt, List, [], ◌∷◌, ◌++◌, length, refl, ap, sym, subst, ◌∙◌, arith, append-nil, length-append, IsTrue}
use Rattle.std.proofs.lemmas.List.{append_assoc, map-append}
use Rattle.std.proofs.lemmas.List.Folds.{list_all-append}
use Rattle.std.specs.Prelude.{map, if◌then◌else◌, Result, Ok, Err, OnOk, OnErr}
use Rattle.kp_model.specs.declared.entry.Body.{Body}
use Rattle.kp_model.specs.LogEntry.{LogEntry}
use Rattle.kp_model.specs.Grammar.{is_body}
use Rattle.kp_model.specs.Limits.{last_number}
use Rattle.kp_model.specs.State.{State}
use Rattle.kp_model.specs.Step.{apply}
use Rattle.kp_model.specs.Store.{Store, after, last as last_of, with_entry}
use Rattle.kp_model.specs.Taken.{would_take}
use Rattle.kp_raft.specs.Members.{Member}
use Rattle.kp_raft.specs.Parts.{is_leader}
use Rattle.kp_step.specs.Handing.{Desk, proposed, proposed_all}
use Rattle.kp_node.specs.Proposing.{AtDesk, ComesTo, HandedIn, entries_of, wanted, desk_of, taken_of}

-- ---- lists

pub map_length : {X Y : Type 0} (f : X → Y) (xs : List X) → length (map f xs) ≡ length xs
map_length f [] = refl
map_length f (x ∷ xs) = ap suc (map_length f xs)

pub after_more : (s : State) (es : List LogEntry) (e : LogEntry) → after s (es ++ e ∷ []) ≡ (apply (after s es) e).state
unfolding after
after_more s [] e = refl
after_more s (d ∷ es) e = after_more (apply s d).state es e

-- ---- one body

abbrev entry_of : ℕ → ℕ → Body → LogEntry
entry_of term now b = record { term = term; time = now; body = b }

-- the desk behind a body that was taken
abbrev behind_taken : ℕ → ℕ → Desk → Body → Desk
behind_taken term now d b = record d { latest = (apply d.latest (entry_of term now b)).state; room = d.room - 1; bodies = d.bodies ++ b ∷ [] }

module _ (first : Store) (term now : ℕ) (x : Store) (bs : List Body) (d : Desk) (b : Body) (h : AtDesk first term now x bs d) where
  chosen : wanted x b ≡ (nat_lt 0 d.room && would_take d.latest b)
  chosen = λ i. nat_lt 0 (h.room i) && would_take (h.latest i) b

  as_chosen : proposed term now d b ≡ (if wanted x b then behind_taken term now d b else d)
  unfolding proposed
  as_chosen = ap (λ c. if c then behind_taken term now d b else d) (sym chosen)

  pub left_out : wanted x b ≡ false → AtDesk first term now x bs (proposed term now d b)
  left_out late = subst (AtDesk first term now x bs) (sym (as_chosen ∙ ap (λ c. if c then behind_taken term now d b else d) late)) h

  module _ (room : last_of x < 2 ^ 62) (fits : IsTrue (is_body b)) where
    longer : last_of (with_entry x (entry_of term now b)) ≡ last_of x + 1
    longer = let l = length-append x.unapplied (entry_of term now b ∷ []) in omega (arith, l)

    one_more : AtDesk first term now (with_entry x (entry_of term now b)) (bs ++ b ∷ []) (behind_taken term now d b)
    one_more = record {
      store = ap (λ (y : Store). with_entry y (entry_of term now b)) h.store ∙ ap (λ es. record first { unapplied = es }) (append_assoc first.unapplied (entries_of term now bs) (entry_of term now b ∷ []) ∙ ap (λ es. first.unapplied ++ es) (sym (map-append (entry_of term now) bs (b ∷ []))));
      latest = after_more x.state x.unapplied (entry_of term now b) ∙ ap (λ s. (apply s (entry_of term now b)).state) h.latest;
      room = let r = h.room in let l = longer in omega (arith, r, l);
      bodies = ap (λ l. l ++ b ∷ []) h.bodies;
      within = let l = longer in omega (arith, room, l);
      numbers = list_all-append is_body bs (b ∷ []) ∙ (λ i. h.numbers i && (fits i && true));
    }

    pub joins_in : wanted x b ≡ true → AtDesk first term now (with_entry x (entry_of term now b)) (bs ++ b ∷ []) (proposed term now d b)
    joins_in there = subst (AtDesk first term now (with_entry x (entry_of term now b)) (bs ++ b ∷ [])) (sym (as_chosen ∙ ap (λ c. if c then behind_taken term now d b else d) there)) one_more

-- a body that is wanted is at the desk where it was added
pub all_join : {T E : Type 0} (r : Result T E) (term now : ℕ) (x y : Store) (bs cs : List Body) (b : Body) → wanted x b ≡ true → last_of x < 2 ^ 62
    → OnOk r (IsTrue (is_body b) × ((y ≡ with_entry x (entry_of term now b)) × (cs ≡ bs ++ b ∷ [])))
    → OnOk r ((first : Store) (d : Desk) → AtDesk first term now x bs d → AtDesk first term now y cs (proposed term now d b))
all_join (Ok t) term now x y bs cs b there room added = λ first d h. subst (λ z. AtDesk first term now z cs (proposed term now d b)) (sym added.1.0) (subst (λ l. AtDesk first term now (with_entry x (entry_of term now b)) l (proposed term now d b)) (sym added.1.1) (joins_in first term now x bs d b h room added.0 there))
all_join (Err e) term now x y bs cs b there room added = tt

-- ---- a desk at its beginning, and back to it

pub here : (x : Store) (term now : ℕ) → last_of x ≤ last_number → AtDesk x term now x [] (desk_of x)
here x term now within = record {
  store = ap (λ es. record x { unapplied = es }) (sym (append-nil x.unapplied));
  latest = refl;
  room = refl;
  bodies = refl;
  within = within;
  numbers = refl;
}

module _ (first : Store) (term now : ℕ) (x : Store) (bs : List Body) (d : Desk) (h : AtDesk first term now x bs d) where
  same_state : x.state ≡ first.state
  same_state = ap (λ (y : Store). y.state) h.store

  longer_by : length x.unapplied ≡ length first.unapplied + length (entries_of term now bs)
  longer_by = ap (λ (y : Store). length y.unapplied) h.store ∙ length-append first.unapplied (entries_of term now bs)

  pub at_desk_from : x.state.applied ≤ last_of first
  at_desk_from = let s = ap (λ (y : State). y.applied) same_state in omega (arith, s)

  pub at_desk_to : last_of first ≤ last_of x
  at_desk_to = let s = ap (λ (y : State). y.applied) same_state in let l = longer_by in omega (arith, s, l)

-- ---- one after another

module _ (first : Store) (term now : ℕ) where
  next_one : (d : Desk) (b : Body) (ys : List Body) → proposed_all term now d (b ∷ ys) ≡ proposed_all term now (proposed term now d b) ys
  unfolding proposed_all
  next_one d b ys = refl

  none_next : (d : Desk) → proposed_all term now d [] ≡ d
  unfolding proposed_all
  none_next d = refl

  pub comes_on : (x y : Store) (bs cs : List Body) (b : Body) (xs ys : List Body) (e : Desk) → xs ≡ b ∷ ys
      → ((f : Store) (d : Desk) → AtDesk f term now x bs d → AtDesk f term now y cs (proposed term now d b))
      → ComesTo first term now x bs xs e → ComesTo first term now y cs ys e
  comes_on x y bs cs b xs ys e is more c = (proposed term now c.0 b, (more first c.0 c.1.0, sym (next_one c.0 b ys) ∙ ap (λ l. proposed_all term now c.0 l) (sym is) ∙ c.1.1))

  pub comes_last : (x : Store) (bs xs : List Body) (e : Desk) → xs ≡ [] → ComesTo first term now x bs xs e → AtDesk first term now x bs e
  comes_last x bs xs e none c = subst (AtDesk first term now x bs) (sym (ap (λ l. proposed_all term now c.0 l) none ∙ none_next c.0) ∙ c.1.1) c.1.0

  pub comes_short : (x y : Store) (bs cs xs : List Body) (e : Desk) → y ≡ x → cs ≡ bs → ComesTo first term now x bs xs e → HandedIn first term now y
  comes_short x y bs cs xs e same none c = (bs, c.0, subst (λ z. AtDesk first term now z bs c.0) (sym same) c.1.0)

  pub comes_first : (x : Store) (bs xs ys : List Body) (d : Desk) → xs ≡ ys → AtDesk first term now x bs d → ComesTo first term now x bs xs (proposed_all term now d ys)
  comes_first x bs xs ys d same h = (d, (h, ap (λ l. proposed_all term now d l) same))

-- without memory for the next one, some are handed in
pub short_all : {T E : Type 0} (r : Result T E) (term now : ℕ) (x y z : Store) (bs cs ds xs : List Body) (e : Desk → Desk) → z ≡ y → ds ≡ cs
    → ((first : Store) (d : Desk) → AtDesk first term now x bs d → ComesTo first term now y cs xs (e d))
    → OnErr r ((first : Store) (d : Desk) → AtDesk first term now x bs d → HandedIn first term now z)
short_all (Ok t) term now x y z bs cs ds xs e same none c = tt
short_all (Err t) term now x y z bs cs ds xs e same none c = λ first d h. comes_short first term now y z cs ds xs (e d) same none (c first d h)

pub none_left : {A : Type 0} (n : ℕ) (xs : List A) → n ≡ length xs → n ≡ 0 → xs ≡ []
none_left n [] e z = refl
none_left n (x ∷ xs) e z = let s = sym e ∙ z in absurd (omega (arith, s))

pub one_left : {A : Type 0} (n k : ℕ) (x : A) (xs ys : List A) → n ≡ length xs → xs ≡ x ∷ ys → k + 1 ≡ n → k ≡ length ys
one_left n k x xs ys e is more = let l = ap length is in omega (arith, e, l, more)

-- ---- what a member takes

module _ (m : Member) (x : Store) (now : ℕ) (bs : List Body) where
  pub takes_none : is_leader m.vars.role ≡ false → taken_of m x now bs ≡ []
  takes_none no_leader = ap (λ b. if b then (proposed_all m.held.term now (desk_of x) bs).bodies else []) no_leader

  pub takes_all : is_leader m.vars.role ≡ true → taken_of m x now bs ≡ (proposed_all m.held.term now (desk_of x) bs).bodies
  takes_all leader = ap (λ b. if b then (proposed_all m.held.term now (desk_of x) bs).bodies else []) leader

pub desk_at_none : (x : Store) (term now : ℕ) (bs : List Body) → last_of x ≤ 2 ^ 62 → bs ≡ [] → (d : Desk) × AtDesk x term now x bs d
desk_at_none x term now bs within none = (desk_of x, subst (λ l. AtDesk x term now x l (desk_of x)) (sym none) (here x term now (omega (arith, within))))

module _ (x y : Store) (t term now : ℕ) (bs cs none : List Body) (last : last_of x ≤ 2 ^ 62) (empty : none ≡ []) (same : t ≡ term) where
  begins : AtDesk x t now x none (desk_of x)
  begins = subst (λ l. AtDesk x t now x l (desk_of x)) (sym empty) (here x t now (omega (arith, last)))

  pub desk_at_all : ((first : Store) (d : Desk) → AtDesk first t now x none d → AtDesk first t now y cs (proposed_all t now d bs)) → AtDesk x term now y cs (proposed_all term now (desk_of x) bs)
  desk_at_all more = subst (λ u. AtDesk x u now y cs (proposed_all u now (desk_of x) bs)) same (more x (desk_of x) begins)

  pub desk_at_some : ((first : Store) (d : Desk) → AtDesk first t now x none d → HandedIn first t now y) → HandedIn x term now y
  desk_at_some more = subst (λ u. HandedIn x u now y) same (more x (desk_of x) begins)

-- ---- back to the beginning

module _ (first : Store) (term now last : ℕ) (x : Store) (is : last ≡ last_of first) (h : HandedIn first term now x) where
  pub back_from : x.state.applied ≤ last
  back_from = subst (λ n. x.state.applied ≤ n) (sym is) (at_desk_from first term now x h.0 h.1 h.2)

  pub back_to : last ≤ last_of x
  back_to = subst (λ n. n ≤ last_of x) (sym is) (at_desk_to first term now x h.0 h.1 h.2)

  pub is_back : (y : Store) → ((z : Store) (es : List LogEntry) → x ≡ record z { unapplied = z.unapplied ++ es } → last ≡ last_of z → y ≡ z) → y ≡ first
  is_back y back = back first (entries_of term now h.0) h.2.store is
