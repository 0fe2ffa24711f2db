-- One step more waits, and what waits is kept.
use Rattle.std.proofs.Common.{◌≡◌, ℕ, ◌≤◌, ◌^◌, Bool, true, false, List, [], ◌∷◌, ◌++◌, Option, Some, None, refl, ap, sym, subst, ◌∙◌, append_assoc}
use Rattle.std.specs.Prelude.{◌&&◌, ◌||◌}
use Rattle.kp_model.specs.LogEntry.{LogEntry}
use Rattle.kp_entry.specs.declared.record.Record.{Record}
use Rattle.kp_entry.specs.declared.record.Record.TheVariants as record_
use Rattle.kp_entry.specs.Heads.{appended}
use Rattle.kp_entry.specs.Held.{Held, replay_one, replay}
use Rattle.kp_entry.specs.Log.{Log, last_index, based_at, with_entries}
use Rattle.kp_entry.specs.Records.{has_base}
use Rattle.kp_snapshot.specs.Snapshots.{Snapshot}
use Rattle.kp_step.specs.Node.{Node}
use Rattle.kp_homes.specs.Opening.{Start, Found, boot_after, started, is_fit, are_fit, blank_start, with_records}
use Rattle.kp_homes.specs.Replays.{made_found}
use Rattle.kp_homes.proofs.Lifting.{started_append}
use Rattle.kp_kept.specs.Ahead.{Waiting, waits_behind, start_of, own, IsBase, leads_to, IsAhead}
use Rattle.kp_kept.proofs.Shapes.{are_entries_fit, entries_boot}

both_true : (a b : Bool) → a ≡ true → b ≡ true → (a && b) ≡ true
both_true true b e f = f
both_true false b e f = absurd (cc e)

left : (a b : Bool) → (a && b) ≡ true → a ≡ true
left true b e = refl
left false b e = absurd (cc e)

right : (a b : Bool) → (a && b) ≡ true → b ≡ true
right true b e = e
right false b e = absurd (cc e)

-- ---- records one behind the other

pub fits_append : (h : Held) (rs ss : List Record) → are_fit h rs ≡ true → are_fit (replay h rs) ss ≡ true → are_fit h (rs ++ ss) ≡ true
fits_append h [] ss a b = b
fits_append h (r ∷ rs) ss a b = both_true _ _ (left (is_fit h.log r) (are_fit (replay_one h r) rs) a) (fits_append (replay_one h r) rs ss (right (is_fit h.log r) (are_fit (replay_one h r) rs) a) b)

-- without a base the log's base stays
record SameBase (l m : Log) : Type 0 where
  base : m.base ≡ l.base
  term : m.base_term ≡ l.base_term

no_left : (a b : Bool) → (a || b) ≡ false → a ≡ false
no_left true b e = absurd (cc e)
no_left false b e = refl

no_right : (a b : Bool) → (a || b) ≡ false → b ≡ false
no_right true b e = absurd (cc e)
no_right false b e = e

base_stays : (h : Held) (rs : List Record) → has_base rs ≡ false → SameBase h.log (replay h rs).log
base_stays h [] e = record { base = refl; term = refl }
base_stays h (record_.Vote t v ∷ rs) e = base_stays (replay_one h (record_.Vote t v)) rs e
base_stays h (record_.Boot b ∷ rs) e = base_stays h rs e
base_stays h (record_.Append n ∷ rs) e = let s = base_stays (replay_one h (record_.Append n)) rs e in record { base = s.base; term = s.term }
base_stays h (record_.Truncate k ∷ rs) e = let s = base_stays (replay_one h (record_.Truncate k)) rs e in record { base = s.base; term = s.term }
base_stays h (record_.Base i t ∷ rs) e = absurd (cc e)

-- ---- what a step wants kept

-- without an image its records lead from what the node kept before to what it keeps behind it; an image stands for the base behind it
abbrev pub wants : Option Snapshot → List Record → Node → Node → Type 0
wants None rs x y = (has_base rs ≡ false) × (are_fit x.held rs ≡ true) × ((b : ℕ) → boot_after b rs ≡ b)
wants (Some i) rs x y = IsBase i y

pub record Leads (rs : List Record) (image : Option Snapshot) (x y : Node) : Type 0 where
  pub held : y.held ≡ replay x.held rs
  pub boot : y.boot ≡ x.boot
  pub wanted : wants image rs x y

pub start_is : (rs : List Record) (x y : Node) → y.held ≡ replay x.held rs → y.boot ≡ x.boot → ((b : ℕ) → boot_after b rs ≡ b) → started (start_of x) rs ≡ start_of y
start_is rs x y held boot boots =
    ap (λ (b : ℕ). let s : Start = record { boot = b; held = replay x.held rs } in s) (boots x.boot ∙ sym boot)
    ∙ ap (λ (h : Held). let s : Start = record { boot = y.boot; held = h } in s) (sym held)

goes_on : (old image : Option Snapshot) (was rs : List Record) (f : Found) (x y : Node) → Leads rs image x y → leads_to old was f x → IsAhead (waits_behind (record { image = old; records = was }) rs image) f y
goes_on old (Some i) was rs f x y l a = l.wanted
goes_on None None was rs f x y l a =
    let held : replay f.start.held was ≡ x.held = ap (λ (s : Start). s.held) a.1 in
    let fit : are_fit (replay f.start.held was) rs ≡ true = subst (λ (h : Held). are_fit h rs ≡ true) (sym held) l.wanted.1 in (
      fits_append f.start.held was rs a.0 fit,
      started_append f.start was rs ∙ ap (λ (s : Start). started s rs) a.1 ∙ start_is rs x y l.held l.boot l.wanted.2,
    )
goes_on (Some j) None was rs f x y l a =
    let same = base_stays x.held rs l.wanted.0 in
    record {
      index = a.index ∙ sym same.base ∙ sym (ap (λ (h : Held). h.log.base) l.held);
      term = a.term ∙ sym same.term ∙ sym (ap (λ (h : Held). h.log.base_term) l.held);
    }

pub ahead_goes_on : (w : Waiting) (rs : List Record) (image : Option Snapshot) (f : Found) (x y : Node) → Leads rs image x y → IsAhead w f x → IsAhead (waits_behind w rs image) f y
ahead_goes_on w rs image f x y l a = goes_on w.image image w.records rs f x y l a

-- ---- what waits is kept

pub batch_kept : (rs : List Record) (f : Found) (x : Node) → started f.start rs ≡ start_of x → with_records rs f ≡ own f.image x
batch_kept rs f x e = ap (λ (s : Start). let g : Found = record { image = f.image; start = s } in g) e

replay_entries : (h : Held) (es : List LogEntry) → replay h (appended es) ≡ record { term = h.term; vote = h.vote; log = with_entries h.log es }
replay_entries h [] = ap (λ (xs : List LogEntry). let g : Held = record { term = h.term; vote = h.vote; log = record { base = h.log.base; base_term = h.log.base_term; entries = xs } } in g) (sym (nil h.log.entries))
  where
    nil : (xs : List LogEntry) → xs ++ [] ≡ xs
    nil [] = refl
    nil (x ∷ xs) = ap (λ (ys : List LogEntry). x ∷ ys) (nil xs)
replay_entries h (e ∷ es) = replay_entries (replay_one h (record_.Append e)) es
    ∙ ap (λ (xs : List LogEntry). let g : Held = record { term = h.term; vote = h.vote; log = record { base = h.log.base; base_term = h.log.base_term; entries = xs } } in g) (append_assoc h.log.entries (e ∷ []) es)

module _ (i : Snapshot) (x : Node) (base : IsBase i x) where
  abbrev own_records : List Record
  own_records = record_.Vote x.held.term x.held.vote ∷ record_.Boot x.boot ∷ appended x.held.log.entries

  voted : Held
  voted = record { term = x.held.term; vote = x.held.vote; log = based_at i.state.applied i.term }

  made_held : replay (blank_start (Some i)).held own_records ≡ x.held
  unfolding voted
  made_held = replay_entries voted x.held.log.entries
      ∙ ap (λ (k : ℕ). let g : Held = record { term = x.held.term; vote = x.held.vote; log = record { base = k; base_term = i.term; entries = x.held.log.entries } } in g) base.index
      ∙ ap (λ (k : ℕ). let g : Held = record { term = x.held.term; vote = x.held.vote; log = record { base = x.held.log.base; base_term = k; entries = x.held.log.entries } } in g) base.term

  pub image_kept : made_found (Some i) own_records ≡ own (Some i) x
  image_kept = ap (λ (b : ℕ). let f : Found = record { image = Some i; start = record { boot = b; held = replay (blank_start (Some i)).held own_records } } in f) (entries_boot x.boot x.held.log.entries)
      ∙ ap (λ (h : Held). let f : Found = record { image = Some i; start = record { boot = x.boot; held = h } } in f) made_held

  pub own_fit : last_index x.held.log ≤ 2 ^ 62 → are_fit (blank_start (Some i)).held own_records ≡ true
  unfolding voted
  own_fit le = are_entries_fit voted x.held.log.entries (subst (λ (h : Held). last_index h.log ≤ 2 ^ 62) (sym made_held) le)
