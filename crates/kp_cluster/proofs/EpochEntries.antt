-- What an entry does to each session.
use Rattle.std.proofs.Common.{◌≡◌, ℕ, ◌+◌, ◌≤◌, ◌==◌, Bool, true, false, not, ◌&&◌, ◌||◌, cond, ◌⊎◌, inl, inr, List, Option, Some, None, refl, ap, sym, subst, ◌∙◌, eqb-true, arith}
use Rattle.std.specs.Prelude.{nat_le}
use Rattle.std.specs.Str.{bytes_eq}
use Rattle.std.specs.FinMap as map
use Rattle.kp_model.specs.declared.entry.Body.{Body}
use Rattle.kp_model.specs.declared.entry.Body.TheVariants as body
use Rattle.kp_model.specs.declared.reply.Reply.{Reply}
use Rattle.kp_model.specs.declared.reply.Reply.TheVariants as reply
use Rattle.kp_model.specs.declared.session.Session.{Session}
use Rattle.kp_model.specs.declared.session.Origin.{Origin}
use Rattle.kp_model.specs.declared.command.Cmd.{Cmd}
use Rattle.kp_model.specs.LogEntry.{LogEntry}
use Rattle.kp_model.specs.State.{State, is_held}
use Rattle.kp_model.specs.Step.{Outcome, replies, new_session, opened, taken_over, joined, attached_to, expired, with_seq, written_by, take_body, apply}
use Rattle.kp_model.proofs.Maps.{none_of}
use Rattle.kp_cluster.specs.Epochs.{attaches}
use Rattle.kp_cluster.proofs.EpochKeeping.{at_key, off_key, other, Remains, same_remains, all_remain, set_remain, Leaves, then_leaves, closed_leaves, act_leaves}

-- who opens a session or takes one over
abbrev pub origin_of : Body → Option Origin
origin_of (body.OpenSession timeout passwd origin) = Some origin
origin_of (body.Attach session passwd origin) = Some origin
origin_of b = None

-- a session is taken over by an origin that holds none
pub record IsTaken (s : State) (b : Body) (o : Outcome) (id : ℕ) : Type 0 where
  pub before : Session
  pub behind : Session
  pub was : map.get s.sessions id ≡ Some before
  pub is : map.get o.state.sessions id ≡ Some behind
  pub attached : attaches id b o.reply ≡ true
  pub epoch : behind.epoch ≡ before.epoch + 1
  pub free : is_held s.sessions behind.holder ≡ false
  pub origin : origin_of b ≡ Some behind.holder
  pub reply : o.reply ≡ reply.Epoch behind.epoch

-- a session is opened
pub record IsBegun (s : State) (b : Body) (o : Outcome) (id : ℕ) : Type 0 where
  pub behind : Session
  pub first : id ≡ s.next
  pub is : map.get o.state.sessions id ≡ Some behind
  pub attached : attaches id b o.reply ≡ false
  pub epoch : behind.epoch ≡ 1
  pub next : o.state.next ≡ s.next + 1
  pub origin : origin_of b ≡ Some behind.holder

pub record IsLeft (s : State) (b : Body) (o : Outcome) (id : ℕ) : Type 0 where
  pub attached : attaches id b o.reply ≡ false
  pub remains : Remains (map.get s.sessions id) (map.get o.state.sessions id)

-- each session is left alone or gone, or it is taken over, or opened
abbrev pub Going : State → Body → Outcome → ℕ → Type 0
Going s b o id = IsLeft s b o id ⊎ (IsTaken s b o id ⊎ IsBegun s b o id)

pub record Goes (s : State) (b : Body) (o : Outcome) : Type 0 where
  pub each : (id : ℕ) → Going s b o id
  pub next : s.next ≤ o.state.next

module _ (s : State) (b : Body) where
  -- nothing is attached, and all that is there was there
  goes_left : (o : Outcome) → ((id : ℕ) → attaches id b o.reply ≡ false) → Leaves s o → Goes s b o
  goes_left o none h = record { each = λ id. inl (record { attached = none id; remains = h.sessions id }); next = omega (arith, h.next) }

  goes_same : (r : Reply) → ((id : ℕ) → attaches id b r ≡ false) → Goes s b (replies s r)
  goes_same r none = goes_left (replies s r) none (record { sessions = all_remain s.sessions s.sessions refl; next = refl })

  goes_either : (c : Bool) (x y : Outcome) → (c ≡ true → Goes s b x) → (c ≡ false → Goes s b y) → Goes s b (cond c x y)
  goes_either true x y f g = f refl
  goes_either false x y f g = g refl

-- ---- a session is opened

opened_at : (s : State) (timeout : ℕ) (passwd : List ℕ) (origin : Origin) (id : ℕ) (c : Bool) → (s.next == id) ≡ c
    → Going s (body.OpenSession timeout passwd origin) (replies (record s { sessions = map.insert s.sessions s.next (new_session timeout passwd origin); next = s.next + 1 }) (reply.Session s.next)) id
opened_at s timeout passwd origin id true e = let same : id ≡ s.next = sym (eqb-true s.next id e) in inr (inr (record {
  behind = new_session timeout passwd origin;
  first = same;
  is = at_key s.sessions s.next (new_session timeout passwd origin) id same;
  attached = refl;
  epoch = refl;
  next = refl;
  origin = refl;
}))
opened_at s timeout passwd origin id false e = inl (record {
  attached = refl;
  remains = subst (Remains (map.get s.sessions id)) (sym (off_key s.sessions s.next (new_session timeout passwd origin) id (other s.next id e))) (same_remains (map.get s.sessions id));
})

opened_goes : (s : State) (timeout : ℕ) (passwd : List ℕ) (origin : Origin) → Goes s (body.OpenSession timeout passwd origin) (opened s timeout passwd origin)
unfolding opened
opened_goes s timeout passwd origin = goes_either s (body.OpenSession timeout passwd origin) (is_held s.sessions origin || nat_le 4611686018427387904 s.next) _ _
    (λ e. goes_same s (body.OpenSession timeout passwd origin) reply.Stale (λ id. refl))
    (λ e. record { each = λ id. opened_at s timeout passwd origin id (s.next == id) refl; next = omega arith })

-- ---- a session is taken over

joined_at : (s : State) (session : ℕ) (passwd : List ℕ) (origin : Origin) (x : Session) → map.get s.sessions session ≡ Some x → is_held s.sessions origin ≡ false → (id : ℕ) (c : Bool) → (session == id) ≡ c
    → Going s (body.Attach session passwd origin) (replies (record s { sessions = map.insert s.sessions session (taken_over origin x) }) (reply.Epoch (x.epoch + 1))) id
joined_at s session passwd origin x there free id true e = let same : id ≡ session = sym (eqb-true session id e) in inr (inl (record {
  before = x;
  behind = taken_over origin x;
  was = ap (map.get s.sessions) same ∙ there;
  is = at_key s.sessions session (taken_over origin x) id same;
  attached = e;
  epoch = refl;
  free = free;
  origin = refl;
  reply = refl;
}))
joined_at s session passwd origin x there free id false e = inl (record {
  attached = e;
  remains = subst (Remains (map.get s.sessions id)) (sym (off_key s.sessions session (taken_over origin x) id (other session id e))) (same_remains (map.get s.sessions id));
})

joined_goes : (s : State) (session : ℕ) (passwd : List ℕ) (origin : Origin) (x : Session) → map.get s.sessions session ≡ Some x → Goes s (body.Attach session passwd origin) (joined x s session origin)
joined_goes s session passwd origin x there = goes_either s (body.Attach session passwd origin) (is_held s.sessions origin || nat_le 4611686018427387904 x.epoch) _ _
    (λ e. goes_same s (body.Attach session passwd origin) reply.Stale (λ id. refl))
    (λ e. record { each = λ id. joined_at s session passwd origin x there (none_of _ _ e).0 id (session == id) refl; next = omega arith })

attached_goes : (s : State) (session : ℕ) (passwd : List ℕ) (origin : Origin) (o : Option Session) → map.get s.sessions session ≡ o → Goes s (body.Attach session passwd origin) (attached_to o s session passwd origin)
attached_goes s session passwd origin None there = goes_same s (body.Attach session passwd origin) _ (λ id. refl)
attached_goes s session passwd origin (Some x) there = goes_either s (body.Attach session passwd origin) (not (bytes_eq x.passwd passwd)) _ _
    (λ e. goes_same s (body.Attach session passwd origin) _ (λ id. refl)) (λ e. joined_goes s session passwd origin x there)

-- ---- a session ends, or writes

expired_goes : (s : State) (i session : ℕ) (o : Option Session) → Goes s (body.Expire session) (expired o s i session)
expired_goes s i session None = goes_same s (body.Expire session) _ (λ id. refl)
expired_goes s i session (Some x) = goes_left s (body.Expire session) _ (λ id. refl) (closed_leaves s i session)

written_goes : (s : State) (i t session epoch seq : ℕ) (c : Cmd) (o : Option Session) → map.get s.sessions session ≡ o → Goes s (body.Write session epoch seq c) (written_by o s i t session epoch seq c)
written_goes s i t session epoch seq c None there = goes_same s (body.Write session epoch seq c) _ (λ id. refl)
written_goes s i t session epoch seq c (Some x) there = goes_either s (body.Write session epoch seq c) (not (epoch == x.epoch && seq == x.seq + 1)) _ _
    (λ e. goes_same s (body.Write session epoch seq c) _ (λ id. refl))
    (λ e. let u : State = record s { sessions = map.insert s.sessions session (with_seq seq x) } in
    goes_left s (body.Write session epoch seq c) _ (λ id. refl) (then_leaves s u _ (set_remain s.sessions session x (with_seq seq x) there refl refl) refl (act_leaves u session x.ids i t c)))

-- ---- bodies and entries

taken_goes : (s : State) (i t : ℕ) (b : Body) → Goes s b (take_body s i t b)
unfolding take_body
taken_goes s i t body.Noop = goes_same s body.Noop _ (λ id. refl)
taken_goes s i t (body.OpenSession timeout passwd origin) = opened_goes s timeout passwd origin
taken_goes s i t (body.Attach session passwd origin) = attached_goes s session passwd origin (map.get s.sessions session) refl
taken_goes s i t (body.Expire session) = expired_goes s i session (map.get s.sessions session)
taken_goes s i t (body.Write session epoch seq c) = written_goes s i t session epoch seq c (map.get s.sessions session) refl

-- the applied index is no matter here
pub apply_goes : (s : State) (e : LogEntry) → Goes (record s { applied = s.applied + 1 }) e.body (apply s e)
unfolding apply
apply_goes s e = taken_goes (record s { applied = s.applied + 1 }) (s.applied + 1) e.time e.body
