-- The form of an image is lawful.
use Rattle.std.proofs.Common.{◌≡◌, ℕ, Bool, true, List, [], Ok, refl, sym, subst}
use Rattle.std.specs.Ordering.{nat_cmp}
use Rattle.std.specs.FinMap as map
use Rattle.std.specs.FinMap.{is_sorted}
use Rattle.std.proofs.lemmas.Slice.Eq.{bytes_eq-Decides}
use Rattle.kp_model.specs.declared.session.Origin.{Origin}
use Rattle.kp_model.specs.State.{path_cmp}
use Rattle.kp_jute.specs.Form.{Lawful, Form, Place, Takes, ◌⊗◌, tagged, seen}
use Rattle.kp_jute.specs.Jute.{raws}
use Rattle.kp_jute.proofs.Combined.{bind_ok, ok_is, seen_lawful, ◌&◌}
use Rattle.kp_jute.proofs.Cases.{tagged_lawful}
use Rattle.kp_jute.proofs.Numbers.{raws_lawful}
use Rattle.kp_entry.specs.Fields.{u32s, limited, numbers, strings, lists, origins}
use Rattle.kp_entry.proofs.FieldLaws.{u32s_lawful, limited_lawful, numbers_lawful, timeouts_lawful, blobs_lawful, strings_lawful, passwords_lawful, lists_lawful, origins_lawful}
use Rattle.kp_snapshot.specs.Rows.{rows}
use Rattle.kp_snapshot.specs.Rules.{Numbered, Placed, numbers_of, holders_of}
use Rattle.kp_snapshot.specs.Images.{nexts, taken, smalls, lines, is_right, claims, figures, session_tested, session_with, session_from, session_behind, spell_session, sessions, node_with, node_from, node_fields, node_tested, node_behind, spell_node, nodes, is_some_node, mark, tables, Parts, parts}
use Rattle.kp_snapshot.specs.Snapshots.{Snapshot, parts_of, snapshot_of, images}
use Rattle.kp_snapshot.proofs.RowLaws.{rows_lawful}
use Rattle.kp_snapshot.proofs.Ordered.{to_T, rows_sorted, number_rises, path_rises}

-- ---- fields

nexts_lawful : Lawful nexts
nexts_lawful = limited_lawful _ numbers numbers_lawful

taken_lawful : (index : ℕ) → Lawful (taken index)
taken_lawful index = limited_lawful _ numbers numbers_lawful

smalls_lawful : Lawful smalls
smalls_lawful = limited_lawful _ u32s u32s_lawful

pub lines_lawful : Lawful lines
lines_lawful = seen_lawful _ _ (limited is_right u32s ⊗ (strings ⊗ strings)) (λ _. refl) (λ _. refl) (limited_lawful is_right u32s u32s_lawful & (strings_lawful & strings_lawful))

claims_lawful : Lawful claims
claims_lawful = timeouts_lawful & (passwords_lawful & (numbers_lawful & numbers_lawful))

pub session_lawful : (number : ℕ → Bool) (holder : Origin → Bool) → Lawful (session_tested number holder)
session_lawful number holder = seen_lawful session_with session_from (limited number numbers ⊗ (claims ⊗ (limited holder origins ⊗ lists strings))) (λ _. refl) (λ _. refl)
    (limited_lawful number numbers numbers_lawful & (claims_lawful & (limited_lawful holder origins origins_lawful & lists_lawful strings strings_lawful)))

pub sessions_lawful : (next : ℕ) → Lawful (sessions next)
unfolding spell_session
sessions_lawful next = rows_lawful spell_session (λ before. session_behind next (numbers_of before) (holders_of before)) (λ before. refl) (λ before. session_lawful _ _)

figures_lawful : (index : ℕ) (owner : ℕ → Bool) → Lawful (figures index owner)
figures_lawful index owner = (taken_lawful index & (taken_lawful index & taken_lawful index)) & ((numbers_lawful & numbers_lawful) & ((smalls_lawful & (smalls_lawful & smalls_lawful)) & (limited_lawful owner numbers numbers_lawful & smalls_lawful)))

fields_of_node_lawful : (index : ℕ) (owner : ℕ → Bool) → Lawful (node_fields index owner)
fields_of_node_lawful index owner = blobs_lawful & (lists_lawful lines lines_lawful & figures_lawful index owner)

pub node_lawful : (index : ℕ) (path : List ℕ → Bool) (owner : List ℕ → ℕ → Bool) → Lawful (node_tested index path owner)
node_lawful index path owner = seen_lawful node_with node_from (tagged (limited path strings) (λ p. node_fields index (owner p))) (λ _. refl) (λ _. refl)
    (tagged_lawful (limited path strings) (λ p. node_fields index (owner p)) (limited_lawful path strings strings_lawful) (λ p. fields_of_node_lawful index (owner p)))

pub nodes_lawful : (index : ℕ) (ids : List ℕ) → Lawful (nodes index ids)
unfolding spell_node
nodes_lawful index ids = limited_lawful is_some_node (rows spell_node (node_behind index ids)) (rows_lawful spell_node (node_behind index ids) (λ before. refl) (λ before. node_lawful _ _ _))

tables_lawful : (index next : ℕ) → Lawful (tables index next)
tables_lawful index next = tagged_lawful (sessions next) (λ ss. nodes index (numbers_of ss)) (sessions_lawful next) (λ ss. nodes_lawful index (numbers_of ss))

pub parts_lawful : Lawful parts
parts_lawful = limited_lawful _ (raws 4) (raws_lawful 4) & tagged_lawful numbers (λ index. numbers ⊗ tagged nexts (tables index)) numbers_lawful
    (λ index. numbers_lawful & tagged_lawful nexts (tables index) nexts_lawful (tables_lawful index))

-- ---- seen as a type that the fields of one value alone stand for

seen_on : {A B : Type 0} (to : A → B) (from : B → A) (f : Form A) → ((a : A) → f.Fits a → from (to a) ≡ a) → ((b : B) → to (from b) ≡ b) → Lawful f → Lawful (seen to from f)
seen_on {A} {B} to from f there back lf = record {
  takes = λ p v q fits e.
      let a = bind_ok (f.read p) (λ x. Ok (to x.0, x.1)) (v, q) e in
      let s = lf.takes p a.0.0 a.0.1 fits a.1 in
      subst (λ (x : B × Place). Takes p (f.spell (from x.0)) x.1 × f.Fits (from x.0)) (ok_is (to a.0.0, a.0.1) (v, q) a.2) (subst (λ (x : A). Takes p (f.spell x) a.0.1 × f.Fits x) (sym (there a.0.0 s.1)) s);
  again = λ v at rest fits. rw (lf.again (from v) at rest fits, back v) refl;
}

pub sessions_sorted : (next : ℕ) (ss : List Numbered) → (sessions next).Fits ss → is_sorted nat_cmp ss ≡ true
sessions_sorted next ss fits = rows_sorted nat_cmp (λ before. (session_behind next (numbers_of before) (holders_of before)).Fits) (λ before x h. number_rises next before x.0 h.0.1) [] ss fits.1

pub nodes_sorted : (index : ℕ) (ids : List ℕ) (ns : List Placed) → (nodes index ids).Fits ns → is_sorted path_cmp ns ≡ true
nodes_sorted index ids ns fits = rows_sorted path_cmp (λ before. (node_behind index ids before).Fits) (λ before x h. path_rises before x.0 h.0.1) [] ns fits.0.1

-- sessions and nodes that rise stay as they are
there : (t : Parts) → parts.Fits t → parts_of (snapshot_of t) ≡ t
there t fits =
    let m : t.0 ≡ mark = (bytes_eq-Decides t.0 mark).0 fits.0.1 in
    let ss = map.entries-from_sorted nat_cmp t.1.1.1.1.0 (to_T _ (sessions_sorted t.1.1.1.0 t.1.1.1.1.0 fits.1.1.1.1.0)) in
    let ns = map.entries-from_sorted path_cmp t.1.1.1.1.1 (to_T _ (nodes_sorted t.1.0 (numbers_of t.1.1.1.1.0) t.1.1.1.1.1 fits.1.1.1.1.1)) in
    λ i. (sym m i, (t.1.0, (t.1.1.0, (t.1.1.1.0, (ss i, ns i)))))

back : (s : Snapshot) → snapshot_of (parts_of s) ≡ s
back s =
    let ss = map.same_entries_map (map.from_sorted (map.entries s.state.sessions)) s.state.sessions (map.entries-from_sorted nat_cmp (map.entries s.state.sessions) (map.entries_sorted s.state.sessions)) in
    let ns = map.same_entries_map (map.from_sorted (map.entries s.state.nodes)) s.state.nodes (map.entries-from_sorted path_cmp (map.entries s.state.nodes) (map.entries_sorted s.state.nodes)) in
    λ i. record { state = record { nodes = ns i; sessions = ss i; next = s.state.next; applied = s.state.applied }; term = s.term }

pub images_lawful : Lawful images
images_lawful = seen_on snapshot_of parts_of parts there back parts_lawful
