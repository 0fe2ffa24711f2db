-- The events of a turn that come from outside, one behind the other.
use Rattle.std.proofs.Common.{◌≡◌, ◌+◌, ◌≤◌, ℕ, Bool, true, false, List, [], ◌∷◌, ◌++◌, length, refl, sym, ap, ◌∙◌, subst, append_assoc, arith}
use Rattle.std.proofs.lemmas.List.{length-append}
use Rattle.std.specs.Prelude.{Option}
use Rattle.kp_event.specs.declared.event.NodeEventKind.{NodeEventKind}
use Rattle.kp_event.specs.declared.event.NodeEventKind.TheVariants as kind
use Rattle.kp_shared.proofs.Lists.{append_nil}
use Rattle.kp_worker.specs.declared.heard.Heard.{Heard}
use Rattle.kp_worker.specs.declared.heard.Heard.TheVariants as heard
use Rattle.kp_worker.specs.declared.heard.LineState.{LineState}
use Rattle.kp_worker.specs.declared.heard.LineState.TheVariants as line
use Rattle.kp_worker.specs.Outside.{Outside, Receives, Stays, Tells, is_there, shut}
use Rattle.kp_worker.specs.Events.{IsOwn, asked, asked_by, delivered, drain_in, drains, draw_in, draws, fed, fed_in, mail_alone, mail_in}
use Rattle.kp_worker.specs.Turns.{AddsHarmless, Harmless}
use Rattle.kp_worker.specs.Calls.{Adds, Gathers}
use Rattle.kp_worker.proofs.Lists.{joined_both, none_more, passes_both, receives_both, receives_none, tells_both, tells_none}

abbrev GivesBytes : Heard → Type 0
GivesBytes (heard.Bytes b) = Unit {0}
GivesBytes heard.Later = ⊥
GivesBytes heard.End = ⊥
GivesBytes heard.Fault = ⊥

abbrev is_true : Bool → Type 0
is_true true = Unit {0}
is_true false = ⊥

-- a connection of which a piece was taken is open
pub open_of : (s : LineState) (b : List ℕ) → is_there s ≡ true → (s ≡ line.Over → heard.Bytes b ≡ heard.End) → s ≡ line.Open
open_of line.Gone b there over = absurd (subst is_true (sym there) tt)
open_of line.Open b there over = refl
open_of line.Over b there over = absurd (subst GivesBytes (over refl) tt)

pub few_both : (a b m n : ℕ) → a ≤ m → b ≤ n → a + b ≤ m + n
few_both a b m n p q = omega arith

at_most : (a m n : ℕ) → a ≤ m → m ≤ n → a ≤ n
at_most a m n p q = omega arith

same : 1 ≤ 1
same = omega arith

module _ {M : Type 0} (o0 o1 : Outside) where
  module _ (box : ℕ → Option (List M)) where
    pub adds_later : (ks : List (NodeEventKind M)) (conn : ℕ) → Tells o0 o1 ((conn, heard.Later) ∷ []) [] → Stays o0 o1 → Adds o0 o1 box box 0 ks ks
    adds_later ks conn t s = (
      [],
      sym (append_nil ks),
      record { takes = ((conn, heard.Later) ∷ [], t, refl); receives = ([], receives_none box, refl); lives = s.state; accepts = none_more 0; undrained = refl; waits = s.waits; faults = s.faults },
    )

    pub adds_bytes : (ks ks2 : List (NodeEventKind M)) (conn : ℕ) (bytes : List ℕ) → Tells o0 o1 ((conn, heard.Bytes bytes) ∷ []) [] → Stays o0 o1 → is_there (o0.state conn) ≡ true
        → (o0.state conn ≡ line.Over → heard.Bytes bytes ≡ heard.End) → ks2 ≡ ks ++ kind.Client conn bytes ∷ [] → Adds o0 o1 box box 0 ks ks2
    adds_bytes ks ks2 conn bytes t s there over e = (
      kind.Client conn bytes ∷ [],
      e,
      record {
        takes = ((conn, heard.Bytes bytes) ∷ [], t, refl);
        receives = ([], receives_none box, refl);
        lives = λ c. ((λ same. subst (λ (x : ℕ). o0.state x ≡ line.Open) same (open_of (o0.state conn) bytes there over)), s.state c);
        accepts = none_more 0;
        undrained = refl;
        waits = s.waits;
        faults = s.faults;
      },
    )

  pub gathers_of : (b0 b1 : ℕ → Option (List M)) (n : ℕ) (ks : List (NodeEventKind M)) → Adds o0 o1 b0 b1 n [] ks → Gathers o0 o1 b0 b1 n ks
  gathers_of b0 b1 n ks a = subst (λ (x : List (NodeEventKind M)). Gathers o0 o1 b0 b1 n x) (sym a.1) a.2

  pub adds_less : (b0 b1 : ℕ → Option (List M)) (m n : ℕ) (ks ks2 : List (NodeEventKind M)) → m ≤ n → Adds o0 o1 b0 b1 m ks ks2 → Adds o0 o1 b0 b1 n ks ks2
  adds_less b0 b1 m n ks ks2 few a = (a.0, a.1, record { takes = a.2.takes; receives = a.2.receives; lives = a.2.lives; accepts = at_most (length (draws a.0)) m n a.2.accepts few; undrained = a.2.undrained; waits = a.2.waits; faults = a.2.faults })

module _ {M : Type 0} (o0 o1 o2 : Outside) (b0 b1 b2 : ℕ → Option (List M)) where
  pub gathers_both : (m n : ℕ) (xs ys : List (NodeEventKind M)) → Gathers o0 o1 b0 b1 m xs → Gathers o1 o2 b1 b2 n ys → Gathers o0 o2 b0 b2 (m + n) (xs ++ ys)
  gathers_both m n xs ys a b = record {
    takes = (
      a.takes.0 ++ b.takes.0,
      tells_both o0 o1 o2 a.takes.0 b.takes.0 [] [] a.takes.1 b.takes.1,
      joined_both fed_in xs ys ∙ ap (λ (l : List (NodeEventKind M)). l ++ fed ys) a.takes.2 ∙ ap (λ (l : List (NodeEventKind M)). asked a.takes.0 ++ l) b.takes.2
          ∙ sym (joined_both (λ (h : ℕ × Heard). asked_by h.0 h.1) a.takes.0 b.takes.0),
    );
    receives = (
      a.receives.0 ++ b.receives.0,
      receives_both b0 b1 b2 a.receives.0 b.receives.0 a.receives.1 b.receives.1,
      joined_both mail_in xs ys ∙ ap (λ (l : List M). l ++ delivered ys) a.receives.2 ∙ ap (λ (l : List M). mail_alone a.receives.0 ++ l) b.receives.2
          ∙ sym (joined_both (λ (h : ℕ × M). h.1 ∷ []) a.receives.0 b.receives.0),
    );
    lives = λ c. passes_both c (o0.state c) (o1.state c) (o2.state c) xs ys (a.lives c) (b.lives c);
    accepts = subst (λ (k : ℕ). k ≤ m + n) (sym (ap length (joined_both draw_in xs ys) ∙ length-append (draws xs) (draws ys))) (few_both (length (draws xs)) (length (draws ys)) m n a.accepts b.accepts);
    undrained = joined_both drain_in xs ys ∙ ap (λ (l : List ℕ). l ++ drains ys) a.undrained ∙ b.undrained;
    waits = b.waits ∙ a.waits;
    faults = b.faults ∙ a.faults;
  }

  pub adds_both : (m n : ℕ) (ks ks1 ks2 : List (NodeEventKind M)) → Adds o0 o1 b0 b1 m ks ks1 → Adds o1 o2 b1 b2 n ks1 ks2 → Adds o0 o2 b0 b2 (m + n) ks ks2
  adds_both m n ks ks1 ks2 a b = (a.0 ++ b.0, b.1 ∙ ap (λ (l : List (NodeEventKind M)). l ++ b.0) a.1 ∙ append_assoc ks a.0 b.0, gathers_both m n a.0 b.0 a.2 b.2)

module _ {M : Type 0} where
  -- the stream of a connection ended or failed, and it was closed
  pub adds_hangup : (o0 o1 o2 : Outside) (box : ℕ → Option (List M)) (ks ks2 : List (NodeEventKind M)) (conn : ℕ) (h : Heard) → asked_by {M = M} conn h ≡ kind.Hangup conn ∷ []
      → Tells o0 o1 ((conn, h) ∷ []) [] → Stays o0 o1 → is_there (o0.state conn) ≡ true → Tells o1 o2 [] [] → ((c : ℕ) → o2.state c ≡ shut c (o1.state c) conn) → o2.waits ≡ o1.waits → o2.faults ≡ o1.faults
      → ks2 ≡ ks ++ kind.Hangup conn ∷ [] → Adds o0 o2 box box 0 ks ks2
  adds_hangup o0 o1 o2 box ks ks2 conn h asks t s there t2 shuts waits faults e = (
    kind.Hangup conn ∷ [],
    e,
    record {
      takes = ((conn, h) ∷ [], tells_both o0 o1 o2 ((conn, h) ∷ []) [] [] [] t t2, sym (append_nil (asked_by conn h) ∙ asks));
      receives = ([], receives_none box, refl);
      lives = λ c. ((λ same. subst (λ (x : ℕ). is_there (o0.state x) ≡ true) same there), shuts c ∙ ap (λ (x : LineState). shut c x conn) (s.state c));
      accepts = none_more 0;
      undrained = refl;
      waits = waits ∙ s.waits;
      faults = faults ∙ s.faults;
    },
  )

  module _ (o : Outside) where
    pub adds_none : (box : ℕ → Option (List M)) (ks ks2 : List (NodeEventKind M)) → ks2 ≡ ks → Adds o o box box 0 ks ks2
    adds_none box ks ks2 e = ([], e ∙ sym (append_nil ks), record { takes = ([], tells_none o, refl); receives = ([], receives_none box, refl); lives = λ c. refl; accepts = none_more 0; undrained = refl; waits = refl; faults = refl })

    pub adds_accept : (box : ℕ → Option (List M)) (ks ks2 : List (NodeEventKind M)) (draw : List ℕ) → ks2 ≡ ks ++ kind.Accept draw ∷ [] → Adds o o box box 1 ks ks2
    adds_accept box ks ks2 draw e = (kind.Accept draw ∷ [], e, record { takes = ([], tells_none o, refl); receives = ([], receives_none box, refl); lives = λ c. (tt, refl); accepts = at_most 1 1 1 same same; undrained = refl; waits = refl; faults = refl })

    pub adds_quiet : (b0 b1 : ℕ → Option (List M)) (ks ks2 : List (NodeEventKind M)) → Receives b0 b1 [] → ks2 ≡ ks → Adds o o b0 b1 0 ks ks2
    adds_quiet b0 b1 ks ks2 r e = ([], e ∙ sym (append_nil ks), record { takes = ([], tells_none o, refl); receives = ([], r, refl); lives = λ c. refl; accepts = none_more 0; undrained = refl; waits = refl; faults = refl })

    pub adds_mail : (b0 b1 : ℕ → Option (List M)) (ks ks2 : List (NodeEventKind M)) (from : ℕ) (m : M) → Receives b0 b1 ((from, m) ∷ []) → ks2 ≡ ks ++ kind.Deliver m ∷ [] → Adds o o b0 b1 0 ks ks2
    adds_mail b0 b1 ks ks2 from m r e = (kind.Deliver m ∷ [], e, record { takes = ([], tells_none o, refl); receives = ((from, m) ∷ [], r, refl); lives = λ c. (tt, refl); accepts = none_more 0; undrained = refl; waits = refl; faults = refl })

    pub own_harmless : (k : NodeEventKind M) → IsOwn k → Harmless o (k ∷ [])
    own_harmless kind.Timeout own = record { feeds = refl; delivers = refl; accepts = refl; lives = λ c. (tt, refl) }
    own_harmless kind.Beat own = record { feeds = refl; delivers = refl; accepts = refl; lives = λ c. (tt, refl) }
    own_harmless kind.CommitOne own = record { feeds = refl; delivers = refl; accepts = refl; lives = λ c. (tt, refl) }
    own_harmless kind.ExpireDue own = record { feeds = refl; delivers = refl; accepts = refl; lives = λ c. (tt, refl) }
    own_harmless kind.Snapshot own = record { feeds = refl; delivers = refl; accepts = refl; lives = λ c. (tt, refl) }
    own_harmless (kind.Accept d) own = absurd own
    own_harmless (kind.Deliver m) own = absurd own
    own_harmless (kind.Client c b) own = absurd own
    own_harmless (kind.Hangup c) own = absurd own
    own_harmless (kind.Drain c) own = absurd own

    own_undrained : (k : NodeEventKind M) → IsOwn k → drains (k ∷ []) ≡ []
    own_undrained kind.Timeout own = refl
    own_undrained kind.Beat own = refl
    own_undrained kind.CommitOne own = refl
    own_undrained kind.ExpireDue own = refl
    own_undrained kind.Snapshot own = refl
    own_undrained (kind.Accept d) own = absurd own
    own_undrained (kind.Deliver m) own = absurd own
    own_undrained (kind.Client c b) own = absurd own
    own_undrained (kind.Hangup c) own = absurd own
    own_undrained (kind.Drain c) own = absurd own

    pub adds_own : (box : ℕ → Option (List M)) (ks ks2 : List (NodeEventKind M)) (k : NodeEventKind M) → IsOwn k → ks2 ≡ ks ++ k ∷ [] → Adds o o box box 0 ks ks2
    adds_own box ks ks2 k own e = let h = own_harmless k own in (
      k ∷ [],
      e,
      record { takes = ([], tells_none o, h.feeds); receives = ([], receives_none box, h.delivers); lives = h.lives; accepts = subst (λ (l : List (List ℕ)). length l ≤ 0) (sym h.accepts) (none_more 0); undrained = own_undrained k own; waits = refl; faults = refl },
    )

    pub harmless_none : Harmless {M = M} o []
    harmless_none = record { feeds = refl; delivers = refl; accepts = refl; lives = λ c. refl }

    pub harmless_both : (xs ys : List (NodeEventKind M)) → Harmless o xs → Harmless o ys → Harmless o (xs ++ ys)
    harmless_both xs ys a b = record {
      feeds = joined_both fed_in xs ys ∙ ap (λ (l : List (NodeEventKind M)). l ++ fed ys) a.feeds ∙ b.feeds;
      delivers = joined_both mail_in xs ys ∙ ap (λ (l : List M). l ++ delivered ys) a.delivers ∙ b.delivers;
      accepts = joined_both draw_in xs ys ∙ ap (λ (l : List (List ℕ)). l ++ draws ys) a.accepts ∙ b.accepts;
      lives = λ c. passes_both c (o.state c) (o.state c) (o.state c) xs ys (a.lives c) (b.lives c);
    }

    pub more_none : (ks ks2 : List (NodeEventKind M)) → ks2 ≡ ks → AddsHarmless o ks ks2
    more_none ks ks2 e = ([], e ∙ sym (append_nil ks), harmless_none)

    pub more_both : (ks ks1 ks2 : List (NodeEventKind M)) → AddsHarmless o ks ks1 → AddsHarmless o ks1 ks2 → AddsHarmless o ks ks2
    more_both ks ks1 ks2 a b = (a.0 ++ b.0, b.1 ∙ ap (λ (l : List (NodeEventKind M)). l ++ b.0) a.1 ∙ append_assoc ks a.0 b.0, harmless_both a.0 b.0 a.2 b.2)

    pub more_beat : (ks ks2 : List (NodeEventKind M)) → ks2 ≡ ks ++ kind.Beat ∷ [] → AddsHarmless o ks ks2
    more_beat ks ks2 e = (kind.Beat ∷ [], e, own_harmless kind.Beat tt)

    pub more_drain : (ks ks2 : List (NodeEventKind M)) (conn : ℕ) → is_there (o.state conn) ≡ true → ks2 ≡ ks ++ kind.Drain conn ∷ [] → AddsHarmless o ks ks2
    more_drain ks ks2 conn there e = (
      kind.Drain conn ∷ [],
      e,
      record { feeds = refl; delivers = refl; accepts = refl; lives = λ c. ((λ same. subst (λ (x : ℕ). is_there (o.state x) ≡ true) same there), refl) },
    )

    pub all_harmless : (ks : List (NodeEventKind M)) → AddsHarmless o [] ks → Harmless o ks
    all_harmless ks a = subst (λ (x : List (NodeEventKind M)). Harmless o x) (sym a.1) a.2
