-- Small facts about lists, records and maps, and about what comes to a member.
use Rattle.std.proofs.Common.{◌≡◌, ℕ, zero, suc, ◌≤◌, max, min, Bool, true, false, cond, ◌&&◌, not, List, [], ◌∷◌, ◌++◌, length, drop, refl, sym, ap, ◌∙◌, subst, arith, length-append, Option, Some, None, slice_get}
use Rattle.std.specs.Prelude.{nat_lt, nat_eq, replicate, if◌then◌else◌}
use mathlib.Core.Path.{fun_ext}
use Rattle.kp_model.specs.LogEntry.{LogEntry}
use Rattle.kp_model.specs.State.{empty}
use Rattle.kp_entry.specs.declared.record.Record.{Record}
use Rattle.kp_entry.specs.declared.record.Record.TheVariants as record_
use Rattle.kp_entry.specs.Log.{Log}
use Rattle.kp_entry.specs.Held.{Held}
use Rattle.kp_raft.specs.declared.append.AppendMail.{AppendMail}
use Rattle.kp_raft.specs.declared.mail.Mail.{Mail}
use Rattle.kp_raft.specs.declared.mail.Mail.TheVariants as mail
use Rattle.kp_raft.specs.declared.append.Weighed.{Weighed}
use Rattle.kp_raft.specs.Numbers.{set_at}
use Rattle.kp_raft.specs.Parts.{Running}
use Rattle.kp_raft.specs.Appends.{fits, clashes, matched}
use Rattle.kp_raft.specs.Steps.{passes_append, on_delivery, weighed}
use Rattle.kp_step.specs.Asking.{is_taken, entries_taken}
use Rattle.kp_step.specs.Step.{heard_filled}
use Rattle.kp_step.specs.Runs.{done_by}
use Rattle.kp_world.specs.Net.{Stored, full, Sent, front_behind, behind_records, is_member, has_image, no_act, taken_of, At, Comes, Does, Tears, Commits}
use Rattle.kp_world.specs.Net as net
use Rattle.kp_world.specs.Book.{Book}
use Rattle.kp_world.proofs.Invariant.{Invariant}
use Rattle.kp_world.proofs.LeadersLogs.{leader_in_term}
use Rattle.kp_world.proofs.Appending.{matched_most}
use Rattle.kp_world.proofs.Link.{MessageFits, cond_cases}

-- one step of the network
abbrev pub one : {I : Type 0} → net.Step I → Option ℕ → List (net.Event I)
one s None = Does s ∷ []
one s (Some j) = Tears s j ∷ []

pub one_is : {I : Type 0} (n : ℕ) (v : net.Net I) (s : net.Step I) (stop : Option ℕ) → net.run n (one s stop) v ≡ net.steps n v s stop
one_is n v s None = refl
one_is n v s (Some j) = refl

pub none_applied : empty.applied ≡ 0
unfolding empty
none_applied = refl

pub done_most : (e : Option LogEntry) (es : List LogEntry) → length es ≤ length (done_by e es)
done_most None es = omega arith
done_most (Some e) es = omega (arith, length-append es (e ∷ []))

pub front_most : (rs : List Record) (list front : List LogEntry) (d : ℕ) → length list ≤ d → length front ≤ d → length (front_behind list front rs) ≤ d
front_most [] list front d l f = f
front_most (record_.Vote t v ∷ rs) list front d l f = front_most rs list front d l f
front_most (record_.Boot b ∷ rs) list front d l f = front_most rs list front d l f
front_most (record_.Append a ∷ rs) list front d l f = front_most rs list front d l f
front_most (record_.Truncate i ∷ rs) list front d l f = front_most rs list front d l f
front_most (record_.Base i t ∷ rs) list front d l f = front_most rs list list d l l

pub front_below : (rs : List Record) (list front done : List LogEntry) → length front ≤ length done → length (front_behind list front rs) ≤ length (front_behind list done rs)
front_below [] list front done f = f
front_below (record_.Vote t v ∷ rs) list front done f = front_below rs list front done f
front_below (record_.Boot b ∷ rs) list front done f = front_below rs list front done f
front_below (record_.Append a ∷ rs) list front done f = front_below rs list front done f
front_below (record_.Truncate i ∷ rs) list front done f = front_below rs list front done f
front_below (record_.Base i t ∷ rs) list front done f = omega arith

pub base_front : (rs : List Record) (list front : List LogEntry) (i t : ℕ) → front_behind list front (rs ++ record_.Base i t ∷ []) ≡ list
base_front [] list front i t = refl
base_front (record_.Vote a b ∷ rs) list front i t = base_front rs list front i t
base_front (record_.Boot b ∷ rs) list front i t = base_front rs list front i t
base_front (record_.Append a ∷ rs) list front i t = base_front rs list front i t
base_front (record_.Truncate j ∷ rs) list front i t = base_front rs list front i t
base_front (record_.Base j u ∷ rs) list front i t = base_front rs list list i t

pub same_image : {I : Type 0} (m : ℕ) (a b : I) (i : ℕ) → slice_get (replicate m a) i ≡ Some b → b ≡ a
same_image zero a b i e = absurd cc
same_image (suc m) a b zero e = let is : a ≡ b = cc in sym is
same_image (suc m) a b (suc i) e = same_image m a b i e

pub get_at : {A : Type 0} (xs : List A) (i : ℕ) → slice_get xs i ≡ slice_get (drop i xs) 0
get_at [] zero = refl
get_at [] (suc i) = refl
get_at (x ∷ xs) zero = refl
get_at (x ∷ xs) (suc i) = get_at xs i

pub set_twice : {A : Type 0} (f : ℕ → A) (k : ℕ) (a b : A) → set_at (set_at f k a) k b ≡ set_at f k b
set_twice f k a b = fun_ext (λ j. at j (nat_eq j k))
  where
    at : (j : ℕ) (t : Bool) → cond t b (cond t a (f j)) ≡ cond t b (f j)
    at j true = refl
    at j false = refl

pub no_image : {I : Type 0} (b : Bool) (o : Option I) → o ≡ None → cond b o None ≡ None
no_image true o e = e
no_image false o e = refl

-- ---- who sent a message

-- the sender of entries or of an image has come to the term
abbrev pub HasCome : {I : Type 0} → (ℕ → ℕ) → Mail I → Type 0
HasCome T (mail.Append m) = m.term ≤ T m.from
HasCome T (mail.Install t from i it image) = t ≤ T from
HasCome T m = Unit {0}

pub come_at : {I : Type 0} (n : ℕ) (b : Book) (T : ℕ → ℕ) (to : ℕ) (list : List LogEntry) (m : Mail I) → Invariant n b → ((k : ℕ) → b.term k ≡ T k) → MessageFits n b to list m → HasCome T m
come_at n b T to list (mail.VoteReq t from end end_term) i e f = tt
come_at n b T to list (mail.VoteRep t from granted) i e f = tt
come_at n b T to list (mail.Append m) i e f =
    let is : b.leader m.term ≡ m.from = f.elected in
    subst (λ c. m.term ≤ c) (ap b.term is ∙ e m.from) (leader_in_term n b m.term i (omega (arith, f.some, is)))
come_at n b T to list (mail.AppendRep t from ok end heard) i e f = tt
come_at n b T to list (mail.Install t from index index_term image) i e f =
    let is : b.leader t ≡ from = f.elected in
    subst (λ c. t ≤ c) (ap b.term is ∙ e from) (leader_in_term n b t i (omega (arith, f.some, is)))
come_at n b T to list (mail.InstallRep t from index) i e f = tt
come_at n b T to list (mail.Forward t from b1) i e f = tt

pub come_filled : {I : Type 0} (T : ℕ → ℕ) (ids : List ℕ) (m : Mail I) → HasCome T m → HasCome T (heard_filled ids m)
come_filled T ids (mail.VoteReq t from end end_term) h = h
come_filled T ids (mail.VoteRep t from granted) h = h
come_filled T ids (mail.Append m) h = h
come_filled T ids (mail.AppendRep t from ok end heard) h = h
come_filled T ids (mail.Install t from i it image) h = h
come_filled T ids (mail.InstallRep t from i) h = h
come_filled T ids (mail.Forward t from b) h = h

-- the sessions that were heard mean nothing to Raft
pub filled_same : {I : Type 0} (n k : ℕ) (h : Held) (v : Running) (j : ℕ) (ids : List ℕ) (m : Mail I)
    → on_delivery n k h v (taken_of h.log m j) m ≡ on_delivery n k h v (taken_of h.log (heard_filled ids m) j) (heard_filled ids m)
filled_same n k h v j ids (mail.VoteReq t from end end_term) = refl
filled_same n k h v j ids (mail.VoteRep t from granted) = refl
filled_same n k h v j ids (mail.Append m) = refl
filled_same n k h v j ids (mail.AppendRep t from ok end heard) = refl
filled_same n k h v j ids (mail.Install t from i it image) = refl
filled_same n k h v j ids (mail.InstallRep t from i) = refl
filled_same n k h v j ids (mail.Forward t from b) = refl

-- ---- how many entries are taken

-- an append of which so many entries are taken is heard with memory for these
abbrev pub room_taken : Option ℕ → ℕ → Weighed → ℕ
room_taken None n w = n
room_taken (Some room) n w = cond (is_taken w.kind) room n

pub weighed_taken : (n k : ℕ) (h : Held) (v : Running) (a : AppendMail) → is_taken (weighed n k h v a).kind ≡ true → (weighed n k h v a).matched ≡ matched h.log a.prev a.entries
weighed_taken n k h v a = cond_cases IsIt (passes_append n k a) _ _
    (λ _. cond_cases IsIt (not (nat_lt a.term h.term) && fits h.log a.prev a.prev_term) _ _
    (λ _. cond_cases IsIt (clashes h.log a.prev a.entries v.commit) _ _ (λ _ t. absurd cc) (λ _ t. refl))
    (λ _ t. absurd cc))
    (λ _ t. absurd cc)
  where
    IsIt : Weighed → Type 0
    IsIt w = is_taken w.kind ≡ true → w.matched ≡ matched h.log a.prev a.entries

pub taken_by_room : (log : Log) (a : AppendMail) (room : Option ℕ) (w : Weighed) → (is_taken w.kind ≡ true → w.matched ≡ matched log a.prev a.entries)
    → entries_taken room (length a.entries) w ≡ max (matched log a.prev a.entries) (min (room_taken room (length a.entries) w) (length a.entries))
taken_by_room log a None w f =
    let most : matched log a.prev a.entries ≤ length a.entries = matched_most log a.prev a.entries in
    let all : length a.entries ≡ max (matched log a.prev a.entries) (min (length a.entries) (length a.entries)) = omega (arith, most) in
    all
taken_by_room log a (Some room) w f = by (is_taken w.kind) refl
  where
    most : matched log a.prev a.entries ≤ length a.entries
    most = matched_most log a.prev a.entries

    by : (b : Bool) → is_taken w.kind ≡ b → (if b then max w.matched (min room (length a.entries)) else length a.entries) ≡ max (matched log a.prev a.entries) (min (cond b room (length a.entries)) (length a.entries))
    by true e = ap (λ z. max z (min room (length a.entries))) (f e)
    by false e = omega (arith, most)
