-- How the network is what a book says.
use Rattle.std.proofs.Common.{◌≡◌, ℕ, zero, suc, ◌+◌, ◌<◌, ◌≤◌, Bool, true, false, cond, ◌&&◌, ◌||◌, refl, sym, ap, ◌∙◌, arith, le_trans, List, [], ◌∷◌, ◌++◌, length, take, subst, inl, inr, ◌⊎◌, ⊎_elim}
use Rattle.std.specs.Prelude.{nat_eq, nat_lt}
use Rattle.std.proofs.lemmas.Bool.Decides.{nat_tests}
use mathlib.Core.List.{IsPrefix}
use Rattle.kp_model.specs.LogEntry.{LogEntry}
use Rattle.kp_model.specs.declared.read.Role.TheVariants.{Candidate, Leader}
use Rattle.kp_entry.specs.declared.record.Record.{Record}
use Rattle.kp_entry.specs.declared.record.Record.TheVariants as record_
use Rattle.kp_raft.specs.declared.append.AppendMail.{AppendMail}
use Rattle.kp_raft.specs.declared.mail.Mail.{Mail}
use Rattle.kp_raft.specs.declared.mail.Mail.TheVariants as mail
use Rattle.kp_entry.specs.Held.{Held, replay}
use Rattle.kp_raft.specs.Parts.{Running, Outcome, to, vote_records, following, vote_at, running_at}
use Rattle.kp_entry.specs.Heads.{appended}
use Rattle.kp_raft.proofs.Replays.{replay_vote}
use Rattle.kp_world.specs.Log.{last_term}
use Rattle.kp_world.specs.Book.{Book, IsCommitted}
use Rattle.kp_world.specs.Moves.{RaiseTerm, MayRaiseTerm, after_move}
use Rattle.kp_world.proofs.Prefixes.{prefix_trans}
use Rattle.kp_world.proofs.Cases.{set_at_cases}
use Rattle.kp_world.proofs.Growth.{Grows}
use Rattle.kp_world.proofs.Invariant.{Invariant}
use Rattle.kp_world.proofs.Safety.{committed_grows}
use Rattle.kp_world.specs.Net.{Stored, full, Sent, front_behind, sent_with, heard}
use Rattle.kp_raft.specs.Rules.{on_term}
use Rattle.kp_world.proofs.Reach.{Reaches, reach_none, reach_trans, reach_rise}

-- i entries of the leader's log of t are committed, by t
pub record Covering (n : ℕ) (b : Book) (t i : ℕ) : Type 0 where
  pub by : ℕ
  pub all : List LogEntry
  pub before : by ≤ t
  pub is : IsCommitted n b by all
  pub more : i ≤ length all

abbrev pub Covered : ℕ → Book → ℕ → ℕ → Type 0
Covered n b t i = (i ≡ 0) ⊎ Covering n b t i

-- xs begins what is committed, by t
pub record Backing (n : ℕ) (b : Book) (t : ℕ) (xs : List LogEntry) : Type 0 where
  pub by : ℕ
  pub all : List LogEntry
  pub before : by ≤ t
  pub is : IsCommitted n b by all
  pub begins : IsPrefix xs all

abbrev pub Backed : ℕ → Book → ℕ → List LogEntry → Type 0
Backed n b t xs = (xs ≡ []) ⊎ Backing n b t xs

-- what a member has stored is what the book says
pub record StoredFits (n : ℕ) (b : Book) (k : ℕ) (s : Stored) : Type 0 where
  pub term : b.term k ≡ s.held.term
  pub vote : b.voted_for k s.held.term ≡ s.held.vote
  pub log : b.log k ≡ full s
  pub base : s.held.log.base ≡ length s.front
  pub base_term : s.held.log.base_term ≡ last_term s.front
  pub backed : Backed n b s.held.term s.front

pub record Stands (b : Book) (k : ℕ) (s : Stored) (v : Running) : Type 0 where
  pub some : 0 < k
  pub yet : b.leader s.held.term ≡ k → ⊥
  pub asked : b.candidate_log s.held.term k ≡ full s
  pub votes : (p : ℕ) → v.votes p ≡ true → b.voted_for p s.held.term ≡ k

pub record Leads (b : Book) (k : ℕ) (s : Stored) (v : Running) : Type 0 where
  pub some : 0 < k
  pub elected : b.leader s.held.term ≡ k
  pub lead : b.leader_log s.held.term ≡ full s
  pub own : length (full s) ≤ b.acked k s.held.term
  pub matches : (p : ℕ) → v.matches p ≤ b.acked p s.held.term
  pub nexts : (p : ℕ) → v.nexts p ≤ length (full s) + 1

pub record RunningFits (n : ℕ) (b : Book) (k : ℕ) (s : Stored) (v : Running) : Type 0 where
  pub base_in : s.held.log.base ≤ v.commit
  pub commit_in : v.commit ≤ length (full s)
  pub committed : Backed n b s.held.term (take v.commit (full s))
  pub stands : v.role ≡ Candidate → Stands b k s v
  pub leads : v.role ≡ Leader → Leads b k s v

pub record VoteReqFits (b : Book) (from t last last_t : ℕ) : Type 0 where
  pub some : 0 < from
  pub stood : t ≤ b.term from
  pub last_term_is : last_term (b.candidate_log t from) ≡ last_t
  pub last_is : length (b.candidate_log t from) ≡ last

pub record AppendFits (n : ℕ) (b : Book) (m : AppendMail) : Type 0 where
  pub some : 0 < m.from
  pub elected : b.leader m.term ≡ m.from
  pub front : List LogEntry
  pub within : IsPrefix (front ++ m.entries) (b.leader_log m.term)
  pub place : length front ≡ m.prev
  pub last : last_term front ≡ m.prev_term
  pub covered : Covered n b m.term m.commit

pub record InstallFits (n : ℕ) (b : Book) (from t i it : ℕ) (list : List LogEntry) : Type 0 where
  pub some : 0 < from
  pub elected : b.leader t ≡ from
  pub place : length list ≡ i
  pub last : last_term list ≡ it
  pub backed : Backed n b t list

abbrev pub MessageFits : {I : Type 0} → ℕ → Book → ℕ → List LogEntry → Mail I → Type 0
MessageFits n b to list (mail.VoteReq t from last last_t) = VoteReqFits b from t last last_t
MessageFits n b to list (mail.VoteRep t from granted) = granted ≡ true → b.voted_for from t ≡ to
MessageFits n b to list (mail.Append m) = AppendFits n b m
MessageFits n b to list (mail.AppendRep t from ok last heard) = ok ≡ true → last ≤ b.acked from t
MessageFits n b to list (mail.Install t from i it image) = InstallFits n b from t i it list
MessageFits n b to list (mail.InstallRep t from i) = i ≤ b.acked from t
MessageFits n b to list (mail.Forward t from body) = Unit {0}

-- a message fits, and is to a member
pub record MailFits {I : Type 0} (n : ℕ) (b : Book) (list : List LogEntry) (m : ℕ × Mail I) : Type 0 where
  pub to : 0 < m.0
  pub message : MessageFits n b m.0 list m.1

abbrev pub OutFits : {I : Type 0} → ℕ → Book → List LogEntry → List (ℕ × Mail I) → Type 0
OutFits n b list [] = Unit {0}
OutFits n b list (m ∷ ms) = MailFits n b list m × OutFits n b list ms

abbrev pub MailsFit : {I : Type 0} → ℕ → Book → List (Sent I) → Type 0
MailsFit n b [] = Unit {0}
MailsFit n b (m ∷ ms) = MailFits n b m.list (m.to, m.message) × MailsFit n b ms

-- what stays true while the book grows

pub covered_grows : (n : ℕ) (b d : Book) (t i : ℕ) → Grows b d → Covered n b t i → Covered n d t i
covered_grows n b d t i g (inl z) = inl z
covered_grows n b d t i g (inr c) = inr (record { by = c.by; all = c.all; before = c.before; is = committed_grows n b d c.by c.all g c.is; more = c.more })

pub backed_grows : (n : ℕ) (b d : Book) (t u : ℕ) (xs : List LogEntry) → Grows b d → t ≤ u → Backed n b t xs → Backed n d u xs
backed_grows n b d t u xs g l (inl z) = inl z
backed_grows n b d t u xs g l (inr c) = inr (record { by = c.by; all = c.all; before = le_trans c.before l; is = committed_grows n b d c.by c.all g c.is; begins = c.begins })

pub message_grows : {I : Type 0} (n k : ℕ) (b d : Book) (to : ℕ) (list : List LogEntry) (m : Mail I) → Reaches n k b d → 0 < to → MessageFits n b to list m → MessageFits n d to list m
message_grows n k b d to list (mail.VoteReq t from last last_t) r some f =
    let same : d.candidate_log t from ≡ b.candidate_log t from = r.asked t from f.stood in
    record { some = f.some; stood = le_trans f.stood (r.grows.term from); last_term_is = ap last_term same ∙ f.last_term_is; last_is = ap (λ xs. length xs) same ∙ f.last_is }
message_grows n k b d to list (mail.VoteRep t from granted) r some f = λ e. let is : b.voted_for from t ≡ to = f e in r.grows.voted_for from t (omega arith) ∙ is
message_grows n k b d to list (mail.Append m) r some f = record {
  some = f.some;
  elected = let is : b.leader m.term ≡ m.from = f.elected in r.grows.leader m.term (omega (arith, f.some)) ∙ f.elected;
  front = f.front;
  within = prefix_trans (f.front ++ m.entries) (b.leader_log m.term) (d.leader_log m.term) f.within (r.grows.leader_log m.term);
  place = f.place;
  last = f.last;
  covered = covered_grows n b d m.term m.commit r.grows f.covered;
}
message_grows n k b d to list (mail.AppendRep t from ok last heard) r some f = λ e. le_trans (f e) (r.grows.acked from t)
message_grows n k b d to list (mail.Install t from i it image) r some f = record {
  some = f.some;
  elected = r.grows.leader t (omega (arith, f.some, f.elected)) ∙ f.elected;
  place = f.place;
  last = f.last;
  backed = backed_grows n b d t t list r.grows (omega arith) f.backed;
}
message_grows n k b d to list (mail.InstallRep t from i) r some f = le_trans f (r.grows.acked from t)
message_grows n k b d to list (mail.Forward t from body) r some f = tt

pub mail_grows : {I : Type 0} (n k : ℕ) (b d : Book) (list : List LogEntry) (m : ℕ × Mail I) → Reaches n k b d → MailFits n b list m → MailFits n d list m
mail_grows n k b d list m r f = record { to = f.to; message = message_grows n k b d m.0 list m.1 r f.to f.message }

pub mails_grow : {I : Type 0} (n k : ℕ) (b d : Book) (ms : List (Sent I)) → Reaches n k b d → MailsFit n b ms → MailsFit n d ms
mails_grow n k b d [] r f = tt
mails_grow n k b d (m ∷ ms) r f = (mail_grows n k b d m.list (m.to, m.message) r f.0, mails_grow n k b d ms r f.1)

pub mails_join : {I : Type 0} (n : ℕ) (b : Book) (list : List LogEntry) (ms : List (ℕ × Mail I)) (ns : List (Sent I)) → OutFits n b list ms → MailsFit n b ns → MailsFit n b (sent_with list ms ++ ns)
mails_join n b list [] ns f g = g
mails_join n b list (m ∷ ms) ns f g = (record { to = f.0.to; message = f.0.message }, mails_join n b list ms ns f.1 g)

pub outs_join : {I : Type 0} (n : ℕ) (b : Book) (list : List LogEntry) (ms ns : List (ℕ × Mail I)) → OutFits n b list ms → OutFits n b list ns → OutFits n b list (ms ++ ns)
outs_join n b list [] ns f g = g
outs_join n b list (m ∷ ms) ns f g = (f.0, outs_join n b list ms ns f.1 g)

-- a member fits on where what it stores stays, and the log that it leads
pub running_grows : (n : ℕ) (b d : Book) (k : ℕ) (s : Stored) (v : Running) → Grows b d → d.candidate_log s.held.term k ≡ b.candidate_log s.held.term k → (b.leader s.held.term ≡ k → 0 < k → d.leader_log s.held.term ≡ b.leader_log s.held.term) → (d.leader s.held.term ≡ k → b.leader s.held.term ≡ k) → RunningFits n b k s v → RunningFits n d k s v
running_grows n b d k s v g a l w f = record {
  base_in = f.base_in;
  commit_in = f.commit_in;
  committed = backed_grows n b d s.held.term s.held.term _ g (omega arith) f.committed;
  stands = λ e. let x : Stands b k s v = f.stands e in record {
    some = x.some;
    yet = λ y. x.yet (w y);
    asked = a ∙ x.asked;
    votes = λ p h. let is : b.voted_for p s.held.term ≡ k = x.votes p h in g.voted_for p s.held.term (omega (arith, x.some)) ∙ is;
  };
  leads = λ e. let x : Leads b k s v = f.leads e in record {
    some = x.some;
    elected = let is : b.leader s.held.term ≡ k = x.elected in g.leader s.held.term (omega (arith, x.some)) ∙ is;
    lead = l x.elected x.some ∙ x.lead;
    own = le_trans x.own (g.acked k s.held.term);
    matches = λ p. le_trans (x.matches p) (g.acked p s.held.term);
    nexts = x.nexts;
  };
}

-- another member's move leaves a member as it is
pub other_stored : (n k : ℕ) (b d : Book) (j : ℕ) (s : Stored) → Reaches n k b d → (j ≡ k → ⊥) → StoredFits n b j s → StoredFits n d j s
other_stored n k b d j s r o f = record {
  term = r.terms j o ∙ f.term;
  vote = r.voted j s.held.term o ∙ f.vote;
  log = r.logs j o ∙ f.log;
  base = f.base;
  base_term = f.base_term;
  backed = backed_grows n b d s.held.term s.held.term s.front r.grows (omega arith) f.backed;
}

pub other_running : (n k : ℕ) (b d : Book) (j : ℕ) (s : Stored) (v : Running) → Reaches n k b d → (j ≡ k → ⊥) → StoredFits n b j s → RunningFits n b j s v → RunningFits n d j s v
other_running n k b d j s v r o sf f = running_grows n b d j s v r.grows
    (r.asked s.held.term j (omega (arith, sf.term)))
    (λ e some. r.leads s.held.term (omega arith) (λ is. o (sym e ∙ is)))
    (λ e. ⊎_elim (λ (x : d.leader s.held.term ≡ b.leader s.held.term). sym x ∙ e) (λ (x : d.leader s.held.term ≡ k). absurd (o (sym e ∙ x))) (r.wins s.held.term))
    f

-- what is stored behind records without a base
abbrev pub behind_plain : Stored → List Record → Stored
behind_plain s rs = record { held = replay s.held rs; front = s.front }

abbrev pub HasNoBase : List Record → Type 0
HasNoBase [] = Unit {0}
HasNoBase (record_.Vote t v ∷ rs) = HasNoBase rs
HasNoBase (record_.Boot b ∷ rs) = HasNoBase rs
HasNoBase (record_.Append e ∷ rs) = HasNoBase rs
HasNoBase (record_.Truncate i ∷ rs) = HasNoBase rs
HasNoBase (record_.Base i t ∷ rs) = ⊥

pub no_base_join : (rs ss : List Record) → HasNoBase rs → HasNoBase ss → HasNoBase (rs ++ ss)
no_base_join [] ss f g = g
no_base_join (record_.Vote t v ∷ rs) ss f g = no_base_join rs ss f g
no_base_join (record_.Boot b ∷ rs) ss f g = no_base_join rs ss f g
no_base_join (record_.Append e ∷ rs) ss f g = no_base_join rs ss f g
no_base_join (record_.Truncate i ∷ rs) ss f g = no_base_join rs ss f g
no_base_join (record_.Base i t ∷ rs) ss f g = absurd f

pub no_base_take : (j : ℕ) (rs : List Record) → HasNoBase rs → HasNoBase (take j rs)
no_base_take zero rs f = tt
no_base_take (suc j) [] f = tt
no_base_take (suc j) (record_.Vote t v ∷ rs) f = no_base_take j rs f
no_base_take (suc j) (record_.Boot b ∷ rs) f = no_base_take j rs f
no_base_take (suc j) (record_.Append e ∷ rs) f = no_base_take j rs f
no_base_take (suc j) (record_.Truncate i ∷ rs) f = no_base_take j rs f
no_base_take (suc j) (record_.Base i t ∷ rs) f = absurd f

pub no_base_front : (list front : List LogEntry) (rs : List Record) → HasNoBase rs → front_behind list front rs ≡ front
no_base_front list front [] f = refl
no_base_front list front (record_.Vote t v ∷ rs) f = no_base_front list front rs f
no_base_front list front (record_.Boot b ∷ rs) f = no_base_front list front rs f
no_base_front list front (record_.Append e ∷ rs) f = no_base_front list front rs f
no_base_front list front (record_.Truncate i ∷ rs) f = no_base_front list front rs f
no_base_front list front (record_.Base i t ∷ rs) f = absurd f

pub no_base_appended : (es : List LogEntry) → HasNoBase (appended es)
no_base_appended [] = tt
no_base_appended (e ∷ es) = no_base_appended es

pub cond_cases : {X : Type 0} (P : X → Type 0) (c : Bool) (x y : X) → (c ≡ true → P x) → (c ≡ false → P y) → P (cond c x y)
cond_cases P true x y f g = f refl
cond_cases P false x y f g = g refl

pub no_base_votes : (h : Held) (t v : ℕ) → HasNoBase (vote_records h t v)
no_base_votes h t v = cond_cases HasNoBase (nat_eq h.term t && nat_eq h.vote v) [] (record_.Vote t v ∷ []) (λ _. tt) (λ _. tt)

-- a stop after any number of records leaves what some book says
abbrev pub Torn : ℕ → ℕ → Book → Stored → List Record → Type 0
Torn n k b s rs = (j : ℕ) → (c : Book) × Reaches n k b c × StoredFits n c k (behind_plain s (take j rs))

pub torn_nil : (n k : ℕ) (b : Book) (s : Stored) → Invariant n b → StoredFits n b k s → Torn n k b s []
torn_nil n k b s i f zero = (b, reach_none n k b i, f)
torn_nil n k b s i f (suc j) = (b, reach_none n k b i, f)

pub torn_cons : (n k : ℕ) (b c : Book) (s : Stored) (r : Record) (rs : List Record) → Invariant n b → StoredFits n b k s → Reaches n k b c → Torn n k c (behind_plain s (r ∷ [])) rs → Torn n k b s (r ∷ rs)
torn_cons n k b c s r rs i f g t zero = (b, reach_none n k b i, f)
torn_cons n k b c s r rs i f g t (suc j) = let x = t j in (x.0, reach_trans n k b c x.0 g x.1, x.2)

pub torn_append : (n k : ℕ) (b c : Book) (s : Stored) (rs ss : List Record) → Torn n k b s rs → Reaches n k b c → Torn n k c (behind_plain s rs) ss → Torn n k b s (rs ++ ss)
torn_append n k b c s [] ss t g u j = let x = u j in (x.0, reach_trans n k b c x.0 g x.1, x.2)
torn_append n k b c s (r ∷ rs) ss t g u zero = t zero
torn_append n k b c s (r ∷ rs) ss t g u (suc j) = torn_append n k b c (behind_plain s (r ∷ [])) rs ss (λ i. t (suc i)) g u j

-- what a step owes
pub record Result {I : Type 0} (n k : ℕ) (b : Book) (s : Stored) (v : Running) (list : List LogEntry) (out : Outcome I) : Type 0 where
  pub book : Book
  pub more : v.commit ≤ out.running.commit
  pub plain : HasNoBase out.records
  pub reaches : Reaches n k b book
  pub torn : Torn n k b s out.records
  pub keeps : StoredFits n book k (behind_plain s out.records)
  pub runs : RunningFits n book k (behind_plain s out.records) out.running
  pub sends : OutFits n book list out.mail

-- a step whose records come to what is stored in s2
pub made : {I : Type 0} (n k : ℕ) (b d : Book) (s s2 : Stored) (v : Running) (list : List LogEntry) (out : Outcome I) → behind_plain s out.records ≡ s2 → v.commit ≤ out.running.commit → HasNoBase out.records → Reaches n k b d → Torn n k b s out.records → StoredFits n d k s2 → RunningFits n d k s2 out.running → OutFits n d list out.mail → Result n k b s v list out
made n k b d s s2 v list out e l p r t f g m = record {
  book = d;
  more = l;
  plain = p;
  reaches = r;
  torn = t;
  keeps = subst (λ x. StoredFits n d k x) (sym e) f;
  runs = subst (λ x. RunningFits n d k x out.running) (sym e) g;
  sends = m;
}

abbrev pub at_term : Stored → ℕ → ℕ → Stored
at_term s t x = record { held = record { term = t; vote = x; log = s.held.log }; front = s.front }

pub behind_votes : (s : Stored) (t x : ℕ) → behind_plain s (vote_records s.held t x) ≡ at_term s t x
behind_votes s t x = ap (λ (h : Held). record { held = h; front = s.front }) (replay_vote s.held t x)

pub torn_votes : (n k : ℕ) (b d : Book) (s : Stored) (t v : ℕ) → Invariant n b → StoredFits n b k s → Reaches n k b d → StoredFits n d k (at_term s t v) → Torn n k b s (vote_records s.held t v)
torn_votes n k b d s t v i f r g = here (nat_eq s.held.term t && nat_eq s.held.vote v)
  where
    here : (x : Bool) → Torn n k b s (cond x [] (record_.Vote t v ∷ []))
    here true = torn_nil n k b s i f
    here false = torn_cons n k b d s (record_.Vote t v) [] i f r (torn_nil n k d (at_term s t v) r.inv g)

-- rule 1
pub record Termed (n k : ℕ) (b : Book) (s : Stored) (v : Running) (t : ℕ) : Type 0 where
  pub book : Book
  pub reaches : Reaches n k b book
  pub keeps : StoredFits n book k (at_term s t (vote_at s.held t))
  pub runs : RunningFits n book k (at_term s t (vote_at s.held t)) (running_at s.held v t)

pub follower_fits : (n : ℕ) (b : Book) (k : ℕ) (s : Stored) (v : Running) (leader : ℕ) → RunningFits n b k s v → RunningFits n b k s (following v leader)
follower_fits n b k s v leader f = record { base_in = f.base_in; commit_in = f.commit_in; committed = f.committed; stands = λ e. absurd cc; leads = λ e. absurd cc }

pub term_stage : (n k : ℕ) (b : Book) (s : Stored) (v : Running) (t : ℕ) → Invariant n b → StoredFits n b k s → RunningFits n b k s v → s.held.term ≤ t → Termed n k b s v t
term_stage n k b s v t i f g l = here (nat_lt s.held.term t) refl
  where
    here : (x : Bool) → nat_lt s.held.term t ≡ x → Termed n k b s v t
    here true e =
        let less : s.held.term < t = grind (arith, nat_tests) in
        let may : MayRaiseTerm b k t = record { above = omega (arith, f.term) } in
        let d : Book = after_move b (RaiseTerm k t) in
        let r : Reaches n k b d = reach_rise n k b t i may in
        let none : b.voted_for k t ≡ 0 = ⊎_elim (λ (h : 0 < b.voted_for k t). absurd (omega (arith, i.voter_term k t h, f.term))) (λ (h : b.voted_for k t ≡ 0). h) (grind arith) in
        record {
          book = d;
          reaches = r;
          keeps = record {
            term = set_at_cases (λ x. x ≡ t) b.term k t k (λ _. refl) (λ no. absurd (no refl));
            vote = rw e none;
            log = f.log;
            base = f.base;
            base_term = f.base_term;
            backed = backed_grows n b d s.held.term t s.front r.grows (omega arith) f.backed;
          };
          runs = rw e (record {
            base_in = g.base_in;
            commit_in = g.commit_in;
            committed = backed_grows n b d s.held.term t _ r.grows (omega arith) g.committed;
            stands = λ r. absurd cc;
            leads = λ r. absurd cc;
          });
        }
    here false e =
        let same : s.held.term ≡ t = grind (arith, nat_tests) in
        let whole : s ≡ at_term s t s.held.vote = λ j. record { held = record { term = same j; vote = s.held.vote; log = s.held.log }; front = s.front } in
        record {
          book = b;
          reaches = reach_none n k b i;
          keeps = rw e (subst (λ x. StoredFits n b k x) whole f);
          runs = rw e (subst (λ x. RunningFits n b k x v) whole g);
        }

-- the vote says nothing of the running part
pub running_vote : (n : ℕ) (b : Book) (k : ℕ) (s : Stored) (t y x : ℕ) (v : Running) → RunningFits n b k (at_term s t y) v → RunningFits n b k (at_term s t x) v
running_vote n b k s t y x v f = record {
  base_in = f.base_in;
  commit_in = f.commit_in;
  committed = f.committed;
  stands = λ e. let z = f.stands e in record { some = z.some; yet = z.yet; asked = z.asked; votes = z.votes };
  leads = λ e. let z = f.leads e in record { some = z.some; elected = z.elected; lead = z.lead; own = z.own; matches = z.matches; nexts = z.nexts };
}

-- a step that writes nothing, at the same book
pub still : {I : Type 0} (n k : ℕ) (b : Book) (s : Stored) (v w : Running) (list : List LogEntry) (ms : List (ℕ × Mail I)) → v.commit ≤ w.commit → Invariant n b → StoredFits n b k s → RunningFits n b k s w → OutFits n b list ms → Result n k b s v list (record { records = []; running = w; mail = ms })
still n k b s v w list ms l i f g h = record { book = b; more = l; plain = tt; reaches = reach_none n k b i; torn = torn_nil n k b s i f; keeps = f; runs = g; sends = h }

-- a step that writes a term and a vote
pub voted_result : {I : Type 0} (n k : ℕ) (b d : Book) (s : Stored) (t x : ℕ) (v w : Running) (list : List LogEntry) (ms : List (ℕ × Mail I)) → v.commit ≤ w.commit → Invariant n b → StoredFits n b k s → Reaches n k b d → StoredFits n d k (at_term s t x) → RunningFits n d k (at_term s t x) w → OutFits n d list ms → Result n k b s v list (record { records = vote_records s.held t x; running = w; mail = ms })
voted_result n k b d s t x v w list ms l i f r g h m = made n k b d s (at_term s t x) v list (record { records = vote_records s.held t x; running = w; mail = ms }) (behind_votes s t x) l (no_base_votes s.held t x) r (torn_votes n k b d s t x i f r g) g h m

pub or_true : (x y : Bool) → (x || y) ≡ true → (x ≡ true) ⊎ (y ≡ true)
or_true true y e = inl refl
or_true false y e = inr e

pub running_at_commit : (h : Held) (v : Running) (t : ℕ) → (running_at h v t).commit ≡ v.commit
running_at_commit h v t = cond_cases (λ (r : Running). r.commit ≡ v.commit) (nat_lt h.term t) (following v 0) v (λ _. refl) (λ _. refl)

-- a message of a greater term, which has no other effect
pub term_ok : {I : Type 0} (n k : ℕ) (b : Book) (s : Stored) (v : Running) (list : List LogEntry) (t : ℕ) → Invariant n b → StoredFits n b k s → RunningFits n b k s v → Result {I = I} n k b s v list (on_term s.held v t)
term_ok n k b s v list t i f g = cond_cases (Result n k b s v list) (nat_lt s.held.term t) _ _
    (λ e.
    let less : s.held.term < t = grind (arith, nat_tests) in
    let x : Termed n k b s v t = term_stage n k b s v t i f g (omega arith) in
    let keeps : StoredFits n x.book k (at_term s t 0) = rw e at x.keeps in
    let runs : RunningFits n x.book k (at_term s t 0) (following v 0) = rw e at x.runs in
    voted_result n k b x.book s t 0 v (following v 0) list [] (omega arith) i f x.reaches keeps runs tt)
    (λ _. still n k b s v v list [] (omega arith) i f g tt)
