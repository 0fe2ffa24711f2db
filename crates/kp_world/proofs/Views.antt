-- A base and the entries behind it are a view of the whole log.
use Rattle.std.proofs.Common.{◌≡◌, ℕ, zero, suc, ◌-◌, ◌<◌, ◌≤◌, refl, sym, ap, ◌∙◌, arith, List, [], ◌∷◌, ◌++◌, length, length-append, append_assoc, append-nil, take, drop, inl, inr, ◌⊎◌, ⊎_elim}
use mathlib.Core.List.{IsPrefix}
use Rattle.kp_model.specs.LogEntry.{LogEntry}
use Rattle.kp_entry.specs.Log.{Log, last_index, last_from, term_of, behind}
use Rattle.kp_world.specs.Log.{last_term}
use Rattle.kp_world.specs.Book.{Book}
use Rattle.kp_world.proofs.Prefixes.{prefix_trans, prefix_length, prefix_shorter}
use Rattle.kp_world.proofs.LastTerms.{last_term_snoc}
use Rattle.kp_world.proofs.Invariant.{Invariant}
use Rattle.kp_world.proofs.Safety.{leader_has, committed_alike}
use Rattle.kp_world.specs.Net.{Stored}
use Rattle.kp_world.proofs.Takes.{take_length, take_most, prefix_is_take}
use Rattle.kp_world.proofs.Link.{Backed, StoredFits}

pub last_view : (front xs : List LogEntry) → last_term (front ++ xs) ≡ last_from (last_term front) xs
last_view front [] = ap last_term (append-nil front)
last_view front (e ∷ es) = ap last_term (sym (append_assoc front (e ∷ []) es)) ∙ (last_view (front ++ e ∷ []) es ∙ ap (λ t. last_from t es) (last_term_snoc front e))

pub take_view : (front xs : List LogEntry) (i : ℕ) → length front ≤ i → take i (front ++ xs) ≡ front ++ take (i - length front) xs
take_view [] xs i l = let e : i ≡ i - 0 = omega arith in ap (λ j. take j xs) e
take_view (x ∷ front) xs zero l = absurd (omega arith)
take_view (x ∷ front) xs (suc i) l = let e : suc i - suc (length front) ≡ i - length front = omega arith in rw e (ap (λ ys. x ∷ ys) (take_view front xs i (omega arith)))

pub drop_view : (front xs : List LogEntry) (i : ℕ) → length front ≤ i → drop i (front ++ xs) ≡ drop (i - length front) xs
drop_view [] xs i l = let e : i ≡ i - 0 = omega arith in ap (λ j. drop j xs) e
drop_view (x ∷ front) xs zero l = absurd (omega arith)
drop_view (x ∷ front) xs (suc i) l = let e : suc i - suc (length front) ≡ i - length front = omega arith in rw e (drop_view front xs i (omega arith))

-- the log and the entries that its base stands for
pub record IsBehind (front : List LogEntry) (log : Log) : Type 0 where
  pub base : log.base ≡ length front
  pub base_term : log.base_term ≡ last_term front

pub is_behind : (n : ℕ) (b : Book) (k : ℕ) (s : Stored) → StoredFits n b k s → IsBehind s.front s.held.log
is_behind n b k s f = record { base = f.base; base_term = f.base_term }

pub term_view : (front : List LogEntry) (log : Log) (i : ℕ) → IsBehind front log → log.base ≤ i → last_term (take i (front ++ log.entries)) ≡ term_of log i
term_view front log i f l = ap last_term (take_view front log.entries i (omega (arith, f.base))) ∙ (last_view front (take (i - length front) log.entries)
    ∙ (ap (λ t. last_from t (take (i - length front) log.entries)) (sym f.base_term) ∙ ap (λ j. last_from log.base_term (take (i - j) log.entries)) (sym f.base)))

pub index_view : (front : List LogEntry) (log : Log) → IsBehind front log → last_index log ≡ length (front ++ log.entries)
index_view front log f = omega (arith, f.base, length-append front log.entries)

-- the last term of all
pub newest_view : (front : List LogEntry) (log : Log) → IsBehind front log → last_term (front ++ log.entries) ≡ term_of log (last_index log)
newest_view front log f = ap last_term (sym (Rattle.kp_world.proofs.Takes.take_whole (last_index log) (front ++ log.entries) (omega (arith, index_view front log f)))) ∙ term_view front log (last_index log) f (omega arith)

pub behind_view : (front : List LogEntry) (log : Log) (i : ℕ) → IsBehind front log → log.base ≤ i → drop i (front ++ log.entries) ≡ behind log i
behind_view front log i f l = drop_view front log.entries i (omega (arith, f.base)) ∙ ap (λ j. drop (i - j) log.entries) (sym f.base)

-- of two lists that begin what is committed the shorter begins the longer
pub backed_prefix : (n : ℕ) (b : Book) (t u : ℕ) (xs ys : List LogEntry) → Invariant n b → Backed n b t xs → Backed n b u ys → length xs ≤ length ys → IsPrefix xs ys
backed_prefix n b t u xs ys i (inl e) y l = rw e (ys, refl)
backed_prefix n b t u xs ys i (inr x) (inl e) l = none_begins xs (omega (arith, ap (λ zs. length zs) e))
  where
    none_begins : (zs : List LogEntry) → length zs ≡ 0 → IsPrefix zs ys
    none_begins [] h = (ys, refl)
    none_begins (z ∷ zs) h = absurd (omega arith)
backed_prefix n b t u xs ys i (inr x) (inr y) l = ⊎_elim
    (λ (w : IsPrefix x.all y.all). prefix_shorter xs ys y.all (prefix_trans xs x.all y.all x.begins w) y.begins l)
    (λ (w : IsPrefix y.all x.all). prefix_shorter xs ys x.all x.begins (prefix_trans ys y.all x.all y.begins w) l)
    (committed_alike n b x.by y.by x.all y.all i x.is y.is)

pub backed_begins : (n : ℕ) (b : Book) (t : ℕ) (xs ys : List LogEntry) → IsPrefix xs ys → Backed n b t ys → Backed n b t xs
backed_begins n b t xs ys w (inl e) = here xs (omega (arith, prefix_length xs ys w, ap (λ zs. length zs) e))
  where
    here : (zs : List LogEntry) → length zs ≡ 0 → Backed n b t zs
    here [] h = inl refl
    here (z ∷ zs) h = absurd (omega arith)
backed_begins n b t xs ys w (inr c) = inr (record { by = c.by; all = c.all; before = c.before; is = c.is; begins = prefix_trans xs ys c.all w c.begins })

-- what is committed by a term begins the log of its leader
pub backed_lead : (n : ℕ) (b : Book) (t : ℕ) (xs : List LogEntry) → Invariant n b → 0 < b.leader t → Backed n b t xs → IsPrefix xs (b.leader_log t)
backed_lead n b t xs i some (inl e) = rw e (b.leader_log t, refl)
backed_lead n b t xs i some (inr c) = prefix_trans xs c.all (b.leader_log t) c.begins (leader_has n b c.by t c.all i c.is c.before some)

pub no_entries : (xs : List LogEntry) → (0 < length xs) ⊎ (xs ≡ [])
no_entries [] = inr refl
no_entries (x ∷ xs) = inl (omega arith)

pub none_left : (xs : List LogEntry) → length xs ≡ 0 → xs ≡ []
none_left [] h = refl
none_left (x ∷ xs) h = absurd (omega arith)
