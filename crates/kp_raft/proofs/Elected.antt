-- What an election comes to.
use Rattle.std.proofs.Common.{◌≡◌, ℕ, ◌+◌, ◌≤◌, true, false, List, [], ◌∷◌, ◌++◌, get_or, length, refl, sym, ◌∙◌, ap, arith, Option, Some, None}
use Rattle.std.specs.Prelude.{Bool, cond}
use Rattle.kp_model.specs.LogEntry.{LogEntry}
use Rattle.kp_model.specs.declared.entry.Body.{Body}
use Rattle.kp_entry.specs.declared.record.Record.{Record}
use Rattle.kp_entry.specs.Heads.{appended}
use Rattle.kp_entry.specs.Log.{last_index, with_entries}
use Rattle.kp_entry.specs.Held.{Held}
use Rattle.kp_raft.specs.declared.mail.Mail.{Mail}
use Rattle.kp_raft.specs.declared.vars.Vars.{Vars}
use Rattle.kp_model.specs.Majority.{is_majority}
use Rattle.kp_raft.specs.Numbers.{for_peers}
use Rattle.kp_raft.specs.Parts.{Running, Outcome, nothing, is_leader, vote_records, changes}
use Rattle.kp_raft.specs.Rules.{leads, own_vote, candidate, may_stand, vote_request, on_timeout, with_vote, on_vote, committed, proposed, still_leading, wrote, on_propose}
use Rattle.kp_raft.specs.Steps.{added}
use Rattle.kp_raft.specs.Variables.{vars_of}
use Rattle.kp_raft.proofs.Replays.{added_entries, changes_none, vote_same}
use Rattle.kp_raft.proofs.StepFacts.{vote_test}

stand_test : (n k me : ℕ) (v : Running) (vars : Vars) (won b : Bool) → vars_of vars ≡ candidate me v → k ≡ n → won ≡ is_majority k (λ (j : ℕ). get_or vars.votes j false) → won ≡ b → is_majority n (own_vote me) ≡ b
stand_test n k me v vars won b after members is test =
    ap (λ (r : Running). is_majority n r.votes) (sym after) ∙ ap (λ (i : ℕ). is_majority i (vars_of vars).votes) (sym members) ∙ sym is ∙ test

asks : (I : Type 0) → ℕ → ℕ → Held → Running → Outcome I
asks I n me h v = record { records = vote_records h (h.term + 1) me; running = candidate me v; mail = for_peers n me (vote_request me h) }

pub timeout_none : (I : Type 0) (n me : ℕ) (h : Held) (v : Running) → may_stand h v ≡ false → nothing v ≡ on_timeout {I = I} n me h v
timeout_none I n me h v stand = ap (λ (b : Bool). cond b (cond (is_majority n (own_vote me)) (leads n me (h.term + 1) h.log (candidate me v) (vote_records h (h.term + 1) me)) (record { records = vote_records h (h.term + 1) me; running = candidate me v; mail = for_peers n me (vote_request me h) })) (nothing {I = I} v)) (sym stand)

pub timeout_wins : (I : Type 0) (n k me node t : ℕ) (h : Held) (v : Running) (vars : Vars) (won : Bool) → may_stand h v ≡ true → node ≡ me → t ≡ h.term + 1 → vars_of vars ≡ candidate me v → k ≡ n → won ≡ is_majority k (λ (j : ℕ). get_or vars.votes j false) → won ≡ true → leads {I = I} n me t h.log (vars_of vars) (vote_records h t node) ≡ on_timeout {I = I} n me h v
timeout_wins I n k me node t h v vars won stand me_is term after members is test =
    ap (λ (x : ℕ). leads {I = I} n me t h.log (vars_of vars) (vote_records h t x)) me_is
    ∙ ap (λ (x : ℕ). leads {I = I} n me x h.log (vars_of vars) (vote_records h x me)) term
    ∙ ap (λ (r : Running). leads {I = I} n me (h.term + 1) h.log r (vote_records h (h.term + 1) me)) after
    ∙ ap (λ (b : Bool). cond b (leads {I = I} n me (h.term + 1) h.log (candidate me v) (vote_records h (h.term + 1) me)) (record { records = vote_records h (h.term + 1) me; running = candidate me v; mail = for_peers n me (vote_request me h) })) (sym (stand_test n k me v vars won true after members is test))
    ∙ ap (λ (b : Bool). cond b (cond (is_majority n (own_vote me)) (leads {I = I} n me (h.term + 1) h.log (candidate me v) (vote_records h (h.term + 1) me)) (record { records = vote_records h (h.term + 1) me; running = candidate me v; mail = for_peers n me (vote_request me h) })) (nothing {I = I} v)) (sym stand)

pub timeout_asks : (I : Type 0) (n k me : ℕ) (h : Held) (v : Running) (vars : Vars) (won : Bool) → may_stand h v ≡ true → vars_of vars ≡ candidate me v → k ≡ n → won ≡ is_majority k (λ (j : ℕ). get_or vars.votes j false) → won ≡ false → record { records = vote_records h (h.term + 1) me; running = vars_of vars; mail = for_peers n me (vote_request me h) } ≡ on_timeout {I = I} n me h v
timeout_asks I n k me h v vars won stand after members is test =
    ap (λ (r : Running). record { records = vote_records h (h.term + 1) me; running = r; mail = for_peers n me (vote_request {I = I} me h) }) after
    ∙ ap (λ (b : Bool). cond b (leads {I = I} n me (h.term + 1) h.log (candidate me v) (vote_records h (h.term + 1) me)) (record { records = vote_records h (h.term + 1) me; running = candidate me v; mail = for_peers n me (vote_request me h) })) (sym (stand_test n k me v vars won false after members is test))
    ∙ ap (λ (b : Bool). cond b (cond (is_majority n (own_vote me)) (leads {I = I} n me (h.term + 1) h.log (candidate me v) (vote_records h (h.term + 1) me)) (record { records = vote_records h (h.term + 1) me; running = candidate me v; mail = for_peers n me (vote_request me h) })) (nothing {I = I} v)) (sym stand)

-- a vote that makes a leader appends a no-op
one_added : (es : List LogEntry) (e : LogEntry) → es ≡ e ∷ [] → added (appended es) ≡ 1
one_added es e is = added_entries es ∙ ap (λ (xs : List LogEntry). length xs) is

pub elected_adds : (I : Type 0) (n k me : ℕ) (h : Held) (v : Running) (from : ℕ) (vars : Vars) (won : Bool) → vars_of vars ≡ with_vote v from → k ≡ n → won ≡ is_majority k (λ (j : ℕ). get_or vars.votes j false) → won ≡ true → added (on_vote {I = I} n me h v from).records ≡ 0 → ⊥
elected_adds I n k me h v from vars won after members is test none =
    let leads_ : added (on_vote {I = I} n me h v from).records ≡ 1 = ap (λ (b : Bool). added (cond b (leads {I = I} n me h.term h.log (with_vote v from) []) (nothing (with_vote v from))).records) (vote_test n k v from vars won true after members is test) in
    absurd (omega (arith, leads_, none))

-- what a candidate asks
pub stand_is : (I : Type 0) (n k me node t : ℕ) (h : Held) (r : Running) (mails : List (ℕ × Mail I)) → node ≡ me → k ≡ n → t ≡ h.term + 1 → mails ≡ for_peers k node (vote_request node h)
    → ◌≡◌ {A = Outcome I} (record { records = changes h t node None []; running = r; mail = mails }) (record { records = vote_records h (h.term + 1) me; running = r; mail = for_peers n me (vote_request me h) })
stand_is I n k me node t h r mails me_is n_is term sent =
    let mail : mails ≡ for_peers n me (vote_request me h) = sent ∙ ap (λ (x : ℕ). for_peers k x (vote_request {I = I} x h)) me_is ∙ ap (λ (x : ℕ). for_peers x me (vote_request {I = I} me h)) n_is in
    let rs : changes h t node None [] ≡ vote_records h (h.term + 1) me = changes_none h t node None ∙ ap (λ (x : ℕ). vote_records h x node) term ∙ ap (λ (x : ℕ). vote_records h (h.term + 1) x) me_is in
    ap {B = Outcome I} (λ (xs : List Record). record { records = xs; running = r; mail = mails }) rs ∙ ap {B = Outcome I} (λ (ms : List (ℕ × Mail I)). record { records = vote_records h (h.term + 1) me; running = r; mail = ms }) mail

-- what a leader writes
pub proposes : (I : Type 0) (n me : ℕ) (h : Held) (v : Running) (time : ℕ) (bodies : List Body) (t b end : ℕ) (es : List LogEntry) (r : Running) → t ≡ h.term → b ≡ h.vote → es ≡ proposed h time bodies → r ≡ still_leading end v → end ≡ last_index h.log + length es → is_leader v.role ≡ true
    → ◌≡◌ {A = Outcome I} (record { records = changes h t b None es; running = committed n me t (with_entries h.log es) r; mail = [] }) (on_propose n me h v time bodies)
proposes I n me h v time bodies t b end es r term vote es_is r_is end_is leads_ =
    let none : vote_records h t b ≡ [] = ap (λ (x : ℕ). vote_records h x b) term ∙ ap (λ (x : ℕ). vote_records h h.term x) vote ∙ vote_same h in
    let running : committed n me t (with_entries h.log es) r ≡ committed n me h.term (with_entries h.log es) (still_leading (last_index h.log + length es) v) = ap (λ (x : ℕ). committed n me x (with_entries h.log es) r) term ∙ ap (λ (x : Running). committed n me h.term (with_entries h.log es) x) (r_is ∙ ap (λ (x : ℕ). still_leading x v) end_is) in
    ap {B = Outcome I} (λ (rs : List Record). record { records = rs ++ appended es; running = committed n me t (with_entries h.log es) r; mail = [] }) none
    ∙ ap {B = Outcome I} (λ (x : Running). record { records = appended es; running = x; mail = [] }) running
    ∙ ap {B = Outcome I} (λ (xs : List LogEntry). record { records = appended xs; running = wrote n me h v xs; mail = [] }) es_is
    ∙ ap {B = Outcome I} (λ (c : Bool). cond c (record { records = appended (proposed h time bodies); running = wrote n me h v (proposed h time bodies); mail = [] }) (nothing v)) (sym leads_)
