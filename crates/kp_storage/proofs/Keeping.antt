-- What a storage keeps, through its calls.
use Rattle.std.proofs.Common.{◌≡◌, ℕ, zero, suc, ◌+◌, ◌-◌, ◌<◌, ◌≤◌, ◌⊎◌, inl, inr, ⊎_elim, List, [], ◌∷◌, ◌++◌, length, take, drop, refl, sym, ap, subst, ◌∙◌, arith, length-append, length-take-le, take-take, take_all, leb-true}
use Rattle.std.proofs.lemmas.List.{take-append-le}
use Rattle.std.specs.List.{All}
use Rattle.std.proofs.lemmas.List.Elements.{All-append, All-take, All-drop}
use Rattle.std.proofs.lemmas.List.Sums.{list_all-from_AllPass}
use Rattle.kp_model.specs.Good.{IsSound}
use Rattle.kp_model.specs.Grammar.{is_entry, IsEntry}
use Rattle.kp_model.specs.LogEntry.{LogEntry}
use Rattle.kp_model.specs.State.{State, empty}
use Rattle.kp_model.specs.Step.{apply, Outcome}
use Rattle.kp_model.specs.Store.{Store, after, committed_as, commit_leaves}
use Rattle.kp_model.specs.declared.reply.Committed.{Committed}
use Rattle.kp_model.proofs.Applied.{applied-apply, applied-after}
use Rattle.kp_model.proofs.GoodEmpty.{empty_sound}
use Rattle.kp_model.proofs.GoodSteps.{apply_sound, after_sound}
use Rattle.kp_cells.specs.Parts.{parts_of, whole, FitTogether}
use Rattle.kp_cells.specs.Overlays.{Overlays, depth, committed_parts, latest_parts, committed_state, latest_state, parts_under, applied_after, IsSettled, all_begun, all_sealed, all_committed, all_dropped}
use Rattle.kp_storage.specs.Kept.{answers_of, IsLayered, Keeps, store}
use Rattle.kp_model.specs.Touched.{touched}
use Rattle.kp_prep.specs.Touching.{AreWithin, staged_keys}
use Rattle.kp_storage.proofs.LayerKeys.{touches_none, touches_front, touches_back, touches_more}
use Rattle.kp_storage.proofs.Replay.{after_append, answers_append, answers_take, length-answers}
use Rattle.kp_cells.proofs.Whole.{whole_is, fit_together}
use Rattle.kp_cells.proofs.Settled.{settled_parts}
use Rattle.kp_storage.proofs.Parts.{parts_front, parts_back, front_layered, back_layered, parts_latest, parts_begun, sealed_layered, parts_sealed, parts_last}

-- the applied index
pub applied_is : (o : Overlays) → (committed_state o).applied ≡ o.applied
unfolding whole
applied_is o = refl

-- over a sound state, with no layer and no entry
pub keeps_none : (o : Overlays) → IsSettled o → IsSound (committed_state o) → Keeps o [] []
unfolding after answers_of whole
keeps_none o h sound = record {
  sound = sound;
  room = let most : o.applied ≤ 4611686018427387904 = leb-true o.applied 4611686018427387904 sound.good.applied in omega (arith, most);
  taken = λ k d lt. absurd (omega (arith, lt));
  layered = subst (IsLayered 0) (sym h) (record {
    metas = record { sealed = refl; closed = refl };
    contents = record { sealed = refl; closed = refl };
    acls = record { sealed = refl; closed = refl };
    children = record { sealed = refl; closed = refl };
    owners = record { sealed = refl; closed = refl };
    sessions = record { sealed = refl; closed = refl };
    next = record { sealed = refl; closed = refl };
  });
  stands = λ k le. let none : k ≡ 0 = omega (arith, le) in subst (λ n. parts_under n o ≡ parts_of (after (committed_state o) (take n []))) (sym none) (settled_parts o h);
  touches = touches_none o;
  answered = refl;
}

-- the empty state is sound
pub sound_empty : (s : State) → s ≡ empty → IsSound s
sound_empty s e = subst IsSound (sym e) empty_sound

-- the same under other names
pub keeps_as : (o p : Overlays) (es fs : List LogEntry) (cs ds : List Committed) → p ≡ o → fs ≡ es → ds ≡ cs → Keeps o es cs → Keeps p fs ds
keeps_as o p es fs cs ds a b c h = subst (λ (x : Overlays). Keeps x fs ds) (sym a) (subst (λ (x : List LogEntry). Keeps o x ds) (sym b) (subst (λ (x : List Committed). Keeps o es x) (sym c) h))

module _ (o : Overlays) (es : List LogEntry) (answers : List Committed) (h : Keeps o es answers) where
  abbrev s : State
  s = committed_state o

  pub committed_parts_are : committed_parts o ≡ parts_of s
  unfolding after
  committed_parts_are = h.stands 0 (omega arith) ∙ ap (λ us. parts_of (after s us)) (none es) where
    none : (us : List LogEntry) → take 0 us ≡ []
    none [] = refl
    none (u ∷ us) = refl

  -- under all layers there is the replay of all entries
  under_all : parts_under (length es) o ≡ parts_of (after s es)
  under_all = h.stands (length es) (omega arith) ∙ ap (λ us. parts_of (after s us)) (take_all (length es) es (omega arith))

  pub latest_parts_are : latest_parts o ≡ parts_of (after s es)
  latest_parts_are = parts_latest o (length es) h.layered ∙ under_all

  last_is : o.applied + depth o ≡ (after s es).applied
  last_is = omega (arith, h.layered.metas.sealed, applied_is o, applied-after s es)

  pub latest_state_is : latest_state o ≡ after s es
  latest_state_is = whole_is (after s es) (o.applied + depth o) (latest_parts o) latest_parts_are last_is

  pub depth_is : depth o ≡ length es
  depth_is = h.layered.metas.sealed

  pub latest_sound : IsSound (after s es)
  latest_sound = after_sound s es (list_all-from_AllPass is_entry es h.taken) (omega (arith, h.room, applied_is o)) h.sound

  -- a layer is opened for one entry more
  begun_parts_are : latest_parts (all_begun o) ≡ parts_of (after s es)
  begun_parts_are = parts_begun o (length es) h.layered ∙ under_all

  pub begun_fits : FitTogether (latest_parts (all_begun o))
  begun_fits = fit_together (after s es) (latest_parts (all_begun o)) begun_parts_are

  pub begun_state_is : latest_state (all_begun o) ≡ after s es
  begun_state_is = whole_is (after s es) (o.applied + depth o) (latest_parts (all_begun o)) begun_parts_are last_is

  pub begun_sound : IsSound (latest_state (all_begun o))
  begun_sound = subst IsSound (sym begun_state_is) latest_sound

  pub begun_next : (latest_state (all_begun o)).applied + 1 ≡ o.applied + length es + 1
  begun_next = ap (λ (x : State). x.applied + 1) begun_state_is ∙ omega (arith, applied-after s es, applied_is o)

  -- the layer of one entry more is sealed
  module _ (p : Overlays) (e : LogEntry) (i : ℕ) (out : Outcome) (on : all_begun p ≡ all_begun o) (same_out : out ≡ apply (latest_state (all_begun o)) e) (stands : latest_parts p ≡ parts_of out.state)
      (index : i ≡ o.applied + length es + 1) (lt : o.applied + length es < 4611686018427387904) (takes : IsEntry e) (within : AreWithin (touched (latest_state (all_begun o)) e) (staged_keys p)) where
    pub sealed_state : committed_state (all_sealed p) ≡ s
    sealed_state = ap committed_state on

    out_is : out ≡ apply (after s es) e
    out_is = same_out ∙ ap (λ (x : State). apply x e) begun_state_is

    one_taken : All IsEntry (e ∷ [])
    one_taken zero d lt = takes
    one_taken (suc k) d lt = absurd (omega (arith, lt))

    more : length (es ++ e ∷ []) ≡ length es + 1
    more = length-append es (e ∷ [])

    before : (k : ℕ) → k ≤ length es → parts_under k (all_sealed p) ≡ parts_of (after (committed_state (all_sealed p)) (take k (es ++ e ∷ [])))
    before k le =
        parts_sealed o p (length es) h.layered on k le
        ∙ h.stands k le
        ∙ ap (λ (us : List LogEntry). parts_of (after s us)) (sym (take-append-le k es (e ∷ []) le))
        ∙ ap (λ (x : State). parts_of (after x (take k (es ++ e ∷ [])))) (sym sealed_state)

    last : parts_under (length es + 1) (all_sealed p) ≡ parts_of (after (committed_state (all_sealed p)) (take (length es + 1) (es ++ e ∷ [])))
    last =
        parts_last o p (length es) h.layered on
        ∙ stands
        ∙ ap (λ (x : Outcome). parts_of x.state) out_is
        ∙ ap parts_of (sym (after_append s es e))
        ∙ ap (λ (us : List LogEntry). parts_of (after s us)) (sym (take_all (length es + 1) (es ++ e ∷ []) (omega (arith, more))))
        ∙ ap (λ (x : State). parts_of (after x (take (length es + 1) (es ++ e ∷ [])))) (sym sealed_state)

    each : (k : ℕ) → k ≤ length es + 1 → (k ≤ length es) ⊎ (k ≡ length es + 1)
    each k le = last_or k (length es) le where
      last_or : (k n : ℕ) → k ≤ n + 1 → (k ≤ n) ⊎ (k ≡ n + 1)
      last_or zero n le = inl (omega arith)
      last_or (suc k) zero le = inr (omega (arith, le))
      last_or (suc k) (suc n) le = ⊎_elim (λ (g : k ≤ n). inl (omega (arith, g))) (λ (g : k ≡ n + 1). inr (omega (arith, g))) (last_or k n (omega (arith, le)))

    pub keeps_more : Keeps (all_sealed p) (es ++ e ∷ []) (answers ++ committed_as i out ∷ [])
    keeps_more = record {
      sound = subst IsSound (sym sealed_state) h.sound;
      room = omega (arith, ap (λ (x : Overlays). x.applied) on, lt, more);
      taken = All-append IsEntry es (e ∷ []) h.taken one_taken;
      layered = subst (λ n. IsLayered n (all_sealed p)) (sym more) (sealed_layered o p (length es) h.layered on);
      stands = λ k le. ⊎_elim (before k) (λ (is : k ≡ length es + 1). subst (λ n. parts_under n (all_sealed p) ≡ parts_of (after (committed_state (all_sealed p)) (take n (es ++ e ∷ [])))) (sym is) last) (each k (omega (arith, le, more)));
      touches = touches_more o p es e h.layered on sealed_state h.touches (subst (λ (x : State). AreWithin (touched x e) (staged_keys p)) begun_state_is within);
      answered = ap (λ cs. cs ++ committed_as i out ∷ []) h.answered
          ∙ ap (λ (x : Outcome). answers_of s es ++ committed_as i x ∷ []) out_is
          ∙ sym (answers_append s es e i (omega (arith, index, applied_is o)))
          ∙ ap (λ (x : State). answers_of x (es ++ e ∷ [])) (sym sealed_state);
    }

    pub store_more : store (all_sealed p) (es ++ e ∷ []) ≡ record { state = s; unapplied = es ++ e ∷ [] }
    store_more = ap (λ (x : State). let y : Store = record { state = x; unapplied = es ++ e ∷ [] } in y) sealed_state

  pub as_many : length answers ≡ length es
  as_many = ap length h.answered ∙ length-answers s es

  -- the last layer is dropped
  pub keeps_less : Keeps (all_dropped o) (take (length es - 1) es) (take (length es - 1) answers)
  keeps_less = record {
    sound = h.sound;
    room = omega (arith, h.room, less);
    taken = All-take IsEntry (length es - 1) es h.taken;
    layered = subst (λ n. IsLayered n (all_dropped o)) (sym less) (back_layered o (length es) h.layered);
    stands = λ k le. let within : k ≤ length es - 1 = omega (arith, le, less) in
        parts_back o (length es) k h.layered within
        ∙ h.stands k (omega (arith, within))
        ∙ ap (λ us. parts_of (after s us)) (sym (take-take k (length es - 1) es within));
    touches = touches_back o es h.layered h.touches;
    answered = ap (take (length es - 1)) h.answered ∙ answers_take (length es - 1) s es;
  } where
    less : length (take (length es - 1) es) ≡ length es - 1
    less = length-take-le (length es - 1) es (omega arith)

  pub keeps_but_last : (n m : ℕ) → n ≡ length es → m ≡ length answers → Keeps (all_dropped o) (take (n - 1) es) (take (m - 1) answers)
  keeps_but_last n m e f =
      let g : m ≡ length es = f ∙ as_many in
      subst (λ k. Keeps (all_dropped o) (take (k - 1) es) (take (m - 1) answers)) (sym e) (subst (λ k. Keeps (all_dropped o) (take (length es - 1) es) (take (k - 1) answers)) (sym g) keeps_less)

-- the first layer is made part of the committed state
module _ (o : Overlays) (e : LogEntry) (es : List LogEntry) (answers : List Committed) (h : Keeps o (e ∷ es) answers) where
  first_parts : committed_parts (all_committed o) ≡ parts_of (apply (committed_state o) e).state
  unfolding after
  first_parts = parts_front o 0 ∙ h.stands 1 (omega arith) ∙ ap (λ us. parts_of (after (committed_state o) (e ∷ us))) (none es) where
    none : (us : List LogEntry) → take 0 us ≡ []
    none [] = refl
    none (u ∷ us) = refl

  index : applied_after o.applied (depth o) ≡ (apply (committed_state o) e).state.applied
  index = omega (arith, h.layered.metas.sealed, h.room, applied_is o, applied-apply (committed_state o) e)

  pub first_state : committed_state (all_committed o) ≡ (apply (committed_state o) e).state
  first_state = whole_is (apply (committed_state o) e).state (applied_after o.applied (depth o)) (committed_parts (all_committed o)) first_parts index

  keeps_first : Keeps (all_committed o) es (drop 1 answers)
  unfolding after answers_of
  keeps_first = record {
    sound = subst IsSound (sym first_state) (apply_sound (committed_state o) e (h.taken 0 e (omega arith)) (omega (arith, h.room, applied_is o)) h.sound);
    room = omega (arith, h.room, index, applied_is o, applied-apply (committed_state o) e);
    taken = All-drop IsEntry 1 (e ∷ es) h.taken;
    layered = front_layered o (length es) h.layered;
    stands = λ k le. parts_front o k ∙ h.stands (suc k) (omega (arith, le)) ∙ ap (λ (x : State). parts_of (after x (take k es))) (sym first_state);
    touches = touches_front o e es first_state h.touches;
    answered = ap (drop 1) h.answered ∙ ap (λ (x : State). answers_of x es) (sym first_state);
  }

pub keeps_rest : (o : Overlays) (es : List LogEntry) (answers : List Committed) → Keeps o es answers → 0 < length es → Keeps (all_committed o) (drop 1 es) (drop 1 answers)
keeps_rest o [] answers h some = absurd (omega (arith, some))
keeps_rest o (e ∷ es) answers h some = keeps_first o e es answers h

pub store_rest : (o : Overlays) (es : List LogEntry) (answers : List Committed) → Keeps o es answers → 0 < length es → store (all_committed o) (drop 1 es) ≡ commit_leaves (committed_state o) es
unfolding commit_leaves
store_rest o [] answers h some = absurd (omega (arith, some))
store_rest o (e ∷ es) answers h some = ap (λ (x : State). let y : Store = record { state = x; unapplied = es } in y) (first_state o e es answers h)
