-- The records of a step of Raft: a vote, a truncation and entries, or a vote and a base.
use Rattle.std.proofs.Common.{◌≡◌, ℕ, ◌+◌, ◌≤◌, ◌<◌, ◌^◌, Bool, true, false, cond, List, [], ◌∷◌, ◌++◌, length, Option, Some, None, refl, ap, subst, ◌∙◌, arith, length-append}
use Rattle.std.specs.Prelude.{◌&&◌, nat_lt, nat_eq}
use Rattle.std.proofs.lemmas.Bool.Decides.{nat_tests}
use Rattle.kp_model.specs.LogEntry.{LogEntry}
use Rattle.kp_entry.specs.declared.record.Record.{Record}
use Rattle.kp_entry.specs.declared.record.Record.TheVariants as record_
use Rattle.kp_entry.specs.Heads.{voted, cut_off, appended}
use Rattle.kp_entry.specs.Held.{Held, replay_one, replay}
use Rattle.kp_entry.specs.Log.{Log, last_index, has_index}
use Rattle.kp_entry.specs.Records.{has_base}
use Rattle.kp_raft.specs.Parts.{vote_records, with_cut}
use Rattle.kp_step.specs.Step.{ends_from, ends_in_base}
use Rattle.kp_homes.specs.Opening.{boot_after, are_fit}

abbrev pub plain : Option (ℕ × ℕ) → Option ℕ → List LogEntry → List Record
plain ballot cut es = (voted ballot ++ cut_off cut) ++ appended es

-- the log is cut at an index of its own
abbrev pub CutFits : Log → Option ℕ → Type 0
CutFits l None = Unit {0}
CutFits l (Some k) = has_index l k ≡ true

pub record IsPlain (h : Held) (rs : List Record) : Type 0 where
  pub ballot : Option (ℕ × ℕ)
  pub cut : Option ℕ
  pub entries : List LogEntry
  pub is : rs ≡ plain ballot cut entries
  pub fits : CutFits h.log cut

pub record IsBased (rs : List Record) (index term : ℕ) : Type 0 where
  pub ballot : Option (ℕ × ℕ)
  pub is : rs ≡ voted ballot ++ record_.Base index term ∷ []

-- ---- entries alone

appended_last : (h : Held) (es : List LogEntry) → last_index (replay h (appended es)).log ≡ last_index h.log + length es
appended_last h [] = omega arith
appended_last h (e ∷ es) =
    let len : length (h.log.entries ++ e ∷ []) ≡ length h.log.entries + 1 = length-append h.log.entries (e ∷ []) in
    let rest = appended_last (replay_one h (record_.Append e)) es in
    omega (arith, len, rest)

both_true : (a b : Bool) → a ≡ true → b ≡ true → (a && b) ≡ true
both_true true b e f = f
both_true false b e f = absurd (cc e)

pub are_entries_fit : (h : Held) (es : List LogEntry) → last_index (replay h (appended es)).log ≤ 2 ^ 62 → are_fit h (appended es) ≡ true
are_entries_fit h [] le = refl
are_entries_fit h (e ∷ es) le =
    let all = appended_last h (e ∷ es) in
    let less : last_index h.log < 2 ^ 62 = omega (arith, all, le) in
    let first : nat_lt (last_index h.log) (2 ^ 62) ≡ true = grind (arith, nat_tests) in
    both_true _ _ first (are_entries_fit (replay_one h (record_.Append e)) es le)

pub entries_open : (es : List LogEntry) → has_base (appended es) ≡ false
entries_open [] = refl
entries_open (e ∷ es) = entries_open es

pub entries_boot : (b : ℕ) (es : List LogEntry) → boot_after b (appended es) ≡ b
entries_boot b [] = refl
entries_boot b (e ∷ es) = entries_boot b es

appended_ends : (es : List LogEntry) → ends_from false (appended es) ≡ false
appended_ends [] = refl
appended_ends (e ∷ es) = appended_ends es

-- ---- plain records

plain_open : (ballot : Option (ℕ × ℕ)) (cut : Option ℕ) (es : List LogEntry) → has_base (plain ballot cut es) ≡ false
plain_open None None es = entries_open es
plain_open None (Some k) es = entries_open es
plain_open (Some v) None es = entries_open es
plain_open (Some v) (Some k) es = entries_open es

plain_boots : (b : ℕ) (ballot : Option (ℕ × ℕ)) (cut : Option ℕ) (es : List LogEntry) → boot_after b (plain ballot cut es) ≡ b
plain_boots b None None es = entries_boot b es
plain_boots b None (Some k) es = entries_boot b es
plain_boots b (Some v) None es = entries_boot b es
plain_boots b (Some v) (Some k) es = entries_boot b es

plain_ends : (ballot : Option (ℕ × ℕ)) (cut : Option ℕ) (es : List LogEntry) → ends_in_base (plain ballot cut es) ≡ false
plain_ends None None es = appended_ends es
plain_ends None (Some k) es = appended_ends es
plain_ends (Some v) None es = appended_ends es
plain_ends (Some v) (Some k) es = appended_ends es

plain_fit : (h : Held) (ballot : Option (ℕ × ℕ)) (cut : Option ℕ) (es : List LogEntry) → CutFits h.log cut → last_index (replay h (plain ballot cut es)).log ≤ 2 ^ 62 → are_fit h (plain ballot cut es) ≡ true
plain_fit h None None es fits le = are_entries_fit h es le
plain_fit h None (Some k) es fits le = both_true _ _ fits (are_entries_fit (replay_one h (record_.Truncate k)) es le)
plain_fit h (Some v) None es fits le = are_entries_fit (replay_one h (record_.Vote v.0 v.1)) es le
plain_fit h (Some v) (Some k) es fits le = both_true _ _ fits (are_entries_fit (replay_one (replay_one h (record_.Vote v.0 v.1)) (record_.Truncate k)) es le)

module _ (h : Held) (rs : List Record) (p : IsPlain h rs) where
  pub is_open : has_base rs ≡ false
  is_open = ap has_base p.is ∙ plain_open p.ballot p.cut p.entries

  pub boots_none : (b : ℕ) → boot_after b rs ≡ b
  boots_none b = ap (boot_after b) p.is ∙ plain_boots b p.ballot p.cut p.entries

  pub ends_in_none : ends_in_base rs ≡ false
  ends_in_none = ap ends_in_base p.is ∙ plain_ends p.ballot p.cut p.entries

  pub are_all_fit : last_index (replay h rs).log ≤ 2 ^ 62 → are_fit h rs ≡ true
  are_all_fit le = ap (are_fit h) p.is ∙ plain_fit h p.ballot p.cut p.entries p.fits (subst (λ (xs : List Record). last_index (replay h xs).log ≤ 2 ^ 62) p.is le)

-- ---- records with a base

based_base : (h : Held) (ballot : Option (ℕ × ℕ)) (index term : ℕ) → ((replay h (voted ballot ++ record_.Base index term ∷ [])).log.base ≡ index) × ((replay h (voted ballot ++ record_.Base index term ∷ [])).log.base_term ≡ term)
based_base h None index term = (refl, refl)
based_base h (Some v) index term = (refl, refl)

pub base_is : (h : Held) (rs : List Record) (index term : ℕ) → IsBased rs index term → ((replay h rs).log.base ≡ index) × ((replay h rs).log.base_term ≡ term)
base_is h rs index term b =
    let at = based_base h b.ballot index term in
    (ap (λ (xs : List Record). (replay h xs).log.base) b.is ∙ at.0, ap (λ (xs : List Record). (replay h xs).log.base_term) b.is ∙ at.1)

-- ---- how the rules write them

pub pick : {A : Type 0} (P : A → Type 0) (b : Bool) (x y : A) → P x → P y → P (cond b x y)
pick P true x y p q = p
pick P false x y p q = q

pub pick_by : {A : Type 0} (P : A → Type 0) (b : Bool) (x y : A) (c : Bool) → b ≡ c → (c ≡ true → P x) → (c ≡ false → P y) → P (cond b x y)
pick_by P true x y true e f g = f refl
pick_by P true x y false e f g = absurd (cc e)
pick_by P false x y true e f g = absurd (cc e)
pick_by P false x y false e f g = g refl

pub none : (h : Held) → IsPlain h []
none h = record { ballot = None; cut = None; entries = []; is = refl; fits = tt }

pub entries_plain : (h : Held) (es : List LogEntry) → IsPlain h (appended es)
entries_plain h es = record { ballot = None; cut = None; entries = es; is = refl; fits = tt }

pub vote_plain : (h : Held) (t v : ℕ) → IsPlain h (vote_records h t v)
vote_plain h t v = pick (IsPlain h) (nat_eq h.term t && nat_eq h.vote v) [] (record_.Vote t v ∷ []) (none h) (record { ballot = Some (t, v); cut = None; entries = []; is = refl; fits = tt })

pub vote_based : (h : Held) (t v index term : ℕ) → IsBased (vote_records h t v ++ record_.Base index term ∷ []) index term
vote_based h t v index term = pick (λ (rs : List Record). IsBased (rs ++ record_.Base index term ∷ []) index term) (nat_eq h.term t && nat_eq h.vote v) [] (record_.Vote t v ∷ [])
    (record { ballot = None; is = refl }) (record { ballot = Some (t, v); is = refl })

pub vote_and : (h : Held) (t v : ℕ) (es : List LogEntry) → IsPlain h (vote_records h t v ++ appended es)
vote_and h t v es = pick (λ (rs : List Record). IsPlain h (rs ++ appended es)) (nat_eq h.term t && nat_eq h.vote v) [] (record_.Vote t v ∷ [])
    (entries_plain h es) (record { ballot = Some (t, v); cut = None; entries = es; is = refl; fits = tt })

pub change_plain : (h : Held) (t v : ℕ) (cut : Option ℕ) (es : List LogEntry) → CutFits h.log cut → IsPlain h (with_cut (vote_records h t v) cut ++ appended es)
change_plain h t v None es fits = vote_and h t v es
change_plain h t v (Some k) es fits = pick (λ (rs : List Record). IsPlain h ((rs ++ record_.Truncate k ∷ []) ++ appended es)) (nat_eq h.term t && nat_eq h.vote v) [] (record_.Vote t v ∷ [])
    (record { ballot = None; cut = Some k; entries = es; is = refl; fits = fits }) (record { ballot = Some (t, v); cut = Some k; entries = es; is = refl; fits = fits })
