-- Handing over one part more.
use Rattle.std.proofs.Common.{◌≡◌, ℕ, List, [], ◌∷◌, ◌++◌, Result, Ok, Err, false, refl, ap, ◌∙◌}
use Rattle.std.specs.Prelude.{IfOk}
use Rattle.std.specs.Result.{is_err}
use Rattle.kp_jute.specs.declared.fault.JuteFail.{JuteFail}
use Rattle.kp_jute.specs.Form.{Place}
use Rattle.kp_entry.specs.Fields.{numbers}
use Rattle.kp_model.specs.State.{State}
use Rattle.kp_model.specs.Poured.{started, with_session, with_node}
use Rattle.kp_snapshot.specs.Rules.{Numbered, Placed, numbers_of}
use Rattle.kp_snapshot.specs.Images.{marks, mark, nexts, sessions, nodes, tables, Parts, parts}
use Rattle.kp_snapshot.specs.Filled.{Gets, with_sessions, with_nodes, with_tables, with_parts}
use Rattle.kp_snapshot.proofs.Steps.{tagged_ok}
use Rattle.kp_snapshot.proofs.Parts.{parts_ok}

sessions_snoc : (s : State) (before : List Numbered) (x : Numbered) → with_session (with_sessions s before) x.0 x.1 ≡ with_sessions s (before ++ x ∷ [])
sessions_snoc s [] x = refl
sessions_snoc s (b ∷ before) x = sessions_snoc (with_session s b.0 b.1) before x

pub sessions_more : (first old new : State) (before : List Numbered) (x : Numbered) → old ≡ with_sessions first before → new ≡ with_session old x.0 x.1 → new ≡ with_sessions first (before ++ x ∷ [])
sessions_more first old new before x e is = is ∙ ap (λ (s : State). with_session s x.0 x.1) e ∙ sessions_snoc first before x

nodes_snoc : (s : State) (before : List Placed) (x : Placed) → with_node (with_nodes s before) x.0 x.1 ≡ with_nodes s (before ++ x ∷ [])
nodes_snoc s [] x = refl
nodes_snoc s (b ∷ before) x = nodes_snoc (with_node s b.0 b.1) before x

pub nodes_more : (first old new : State) (before : List Placed) (x : Placed) → old ≡ with_nodes first before → new ≡ with_node old x.0 x.1 → new ≡ with_nodes first (before ++ x ∷ [])
nodes_more first old new before x e is = is ∙ ap (λ (s : State). with_node s x.0 x.1) e ∙ nodes_snoc first before x

pub tables_poured : (index next : ℕ) (p q new : Place) (ss : List Numbered) (first mid last : State) (result : Result (Unit {0}) JuteFail) → (sessions next).read p ≡ Ok (ss, q) → mid ≡ with_sessions first ss
    → Gets (λ _ (ns : List Placed). last ≡ with_nodes mid ns) result new ((nodes index (numbers_of ss)).read q) → Gets (λ _ (t : List Numbered × List Placed). last ≡ with_tables first t) result new ((tables index next).read p)
tables_poured index next p q new ss first mid last (Ok u) e m h = ((ss, h.0), tagged_ok (sessions next) (λ ss. nodes index (numbers_of ss)) p q new ss h.0 e h.1, h.2 ∙ ap (λ (z : State). with_nodes z h.0) m)
tables_poured index next p q new ss first mid last (Err fail) e m h = tt

pub parts_poured : (p q r s u new : Place) (index term next : ℕ) (first mid last : State) (result : Result (Unit {0}) JuteFail) → marks.read p ≡ Ok (mark, q) → numbers.read q ≡ Ok (index, r) → numbers.read r ≡ Ok (term, s) → nexts.read s ≡ Ok (next, u) → mid ≡ started first index next
    → Gets (λ _ (t : List Numbered × List Placed). last ≡ with_tables mid t) result new ((tables index next).read u) → Gets (λ _ (t : Parts). last ≡ with_parts first t) result new (parts.read p)
parts_poured p q r s u new index term next first mid last (Ok v) a b c d m h = ((mark, (index, (term, (next, h.0)))), parts_ok p q r s u new index term next h.0 a b c d h.1, h.2 ∙ ap (λ (z : State). with_tables z h.0) m)
parts_poured p q r s u new index term next first mid last (Err fail) a b c d m h = tt

-- what is so where a call answered Ok
pub where_ok : {T E P : Type 0} (r : Result T E) → false ≡ is_err r → IfOk r (λ _. P) → P
where_ok (Ok x) e p = p
where_ok (Err f) e p = absurd cc
