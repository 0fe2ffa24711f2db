-- What a leader sends (rule 5).
use Rattle.std.proofs.Common.{◌≡◌, ℕ, zero, suc, ◌-◌, ◌<◌, ◌≤◌, Bool, true, false, not, ◌&&◌, refl, sym, ap, ◌∙◌, arith, List, [], ◌∷◌, ◌++◌, length, take, drop, subst, inl, inr, ⊎_elim, Option, None, Some, slice_get}
use Rattle.std.specs.Prelude.{nat_eq, nat_le}
use Rattle.std.proofs.lemmas.Bool.Decides.{nat_tests}
use mathlib.Core.List.{IsPrefix}
use Rattle.kp_model.specs.LogEntry.{LogEntry}
use Rattle.kp_entry.specs.Log.{behind, batch}
use Rattle.kp_raft.specs.declared.mail.Mail.TheVariants as mail
use Rattle.kp_raft.specs.Numbers.{for_peers}
use Rattle.kp_raft.specs.Parts.{Running, is_leader, to}
use Rattle.kp_world.specs.Book.{Book}
use Rattle.kp_world.proofs.Prefixes.{prefix_trans, prefix_length, take_prefix}
use Rattle.kp_world.proofs.Invariant.{Invariant}
use Rattle.kp_world.specs.Net.{Stored, full}
use Rattle.kp_model.specs.Majority.{count}
use Rattle.kp_raft.specs.Appends.{lags, append_for, install_with, beat_for, on_beat}
use Rattle.kp_world.proofs.Takes.{take_length, take_drop}
use Rattle.kp_world.proofs.Agree.{prefix_join}
use Rattle.kp_world.proofs.Link.{Backing, StoredFits, Leads, AppendFits, OutFits, Result, still, cond_cases}
use Rattle.kp_world.proofs.Views.{is_behind, term_view, behind_view, backed_begins}
use Rattle.kp_world.proofs.Leaders.{leader_is, peers_fit}
use Rattle.kp_world.proofs.Owing.{NodeRuns, image_term}

batch_prefix : (most room : ℕ) (es : List LogEntry) → IsPrefix (batch most room es) es
batch_prefix zero room es = (es, refl)
batch_prefix (suc most) room [] = ([], refl)
batch_prefix (suc most) room (e ∷ es) =
    let left : ℕ = room - length (Rattle.kp_entry.specs.Entries.entries.spell e) in
    let rest : IsPrefix (batch most left es) es = batch_prefix most left es in
    cond_cases (λ xs. IsPrefix xs (e ∷ es)) (nat_eq room 0) [] (e ∷ batch most left es)
    (λ _. (e ∷ es, refl))
    (λ _. (rest.0, ap (λ ys. e ∷ ys) rest.1))

next_above : (x y : Bool) (a c : ℕ) → x ≡ false → (not x && y) ≡ false → y ≡ nat_le a c → c < a
next_above true y a c p q r = absurd cc
next_above false y a c p q r = let t : nat_le a c ≡ false = sym r ∙ q in grind (arith, nat_tests)

pub beat_ok : {I : Type 0} (n k : ℕ) (b : Book) (s : Stored) (v : Running) (done : List LogEntry) (index : ℕ) (images : List I) → Invariant n b → StoredFits n b k s → NodeRuns n b k s v done → s.held.log.base ≤ index → index ≤ length done → Result n k b s v (take index done) (on_beat n k s.held v index images)
beat_ok {I = I} n k b s v done index images i f g low high = still n k b s v v list _ (omega arith) i f g.runs
    (cond_cases (OutFits n b list) (is_leader v.role) (for_peers n k (beat_for k s.held v index images)) []
    (λ e.
    let l : Leads b k s v = g.runs.leads (leader_is v.role e) in
    peers_fit n b list n k (beat_for k s.held v index images) (λ p pos other. cond_cases (OutFits n b list) (lags k s.held v p) (install_with k s.held p index (slice_get images (count (p - 1) (lags k s.held v)))) (to p (mail.Append (append_for k s.held v p)))
    (λ _. with_image l p pos (slice_get images (count (p - 1) (lags k s.held v))))
    (λ t.
    let prev : ℕ = v.nexts p - 1 in
    let above : s.held.log.base < v.nexts p = next_above (nat_eq p k) (nat_le (v.nexts p) s.held.log.base) (v.nexts p) s.held.log.base other t refl in
    let es : List LogEntry = batch 64 1048576 (behind s.held.log prev) in
    let view : drop prev (full s) ≡ behind s.held.log prev = behind_view s.front s.held.log prev (is_behind n b k s f) (omega arith) in
    let within : IsPrefix (take prev (full s) ++ es) (full s) = subst (λ xs. IsPrefix (take prev (full s) ++ es) xs) (take_drop prev (full s)) (prefix_join (take prev (full s)) es (drop prev (full s)) (rw view (batch_prefix 64 1048576 (behind s.held.log prev)))) in
    let fits : AppendFits n b (append_for k s.held v p) = record {
      some = l.some;
      elected = l.elected;
      front = take prev (full s);
      within = rw l.lead within;
      place = take_length prev (full s) (omega (arith, l.nexts p));
      last = term_view s.front s.held.log prev (is_behind n b k s f) (omega arith);
      covered = ⊎_elim
          (λ (z : take v.commit (full s) ≡ []). inl (omega (arith, ap (λ xs. length xs) z, take_length v.commit (full s) g.runs.commit_in)))
          (λ (c : Backing n b s.held.term (take v.commit (full s))). inr (record { by = c.by; all = c.all; before = c.before; is = c.is; more = omega (arith, prefix_length (take v.commit (full s)) c.all c.begins, take_length v.commit (full s) g.runs.commit_in) }))
          g.runs.committed;
    } in
    (record { to = pos; message = fits }, tt))))
    (λ _. tt))
  where
    list : List LogEntry
    list = take index done

    with_image : Leads b k s v → (p : ℕ) → 0 < p → (o : Option I) → OutFits n b list (install_with k s.held p index o)
    with_image l p pos None = tt
    with_image l p pos (Some image) = (
      record {
        to = pos;
        message = record {
          some = l.some;
          elected = l.elected;
          place = take_length index done high;
          last = image_term n b k s v done index f g low high;
          backed = backed_begins n b s.held.term list (take v.commit (full s)) (prefix_trans list done (take v.commit (full s)) (take_prefix index done) g.done_in) g.runs.committed;
        };
      },
      tt,
    )
