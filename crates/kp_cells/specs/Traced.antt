-- The numbers of paths that each layer wrote, and which numbers are in use.
use Rattle.std.specs.Prelude.{◌≡◌, ⊤, ℕ, Bool, true, cond, not, ◌&&◌, ◌||◌, nat_eq, List, [], ◌∷◌, refl, Option, Some, None, unwrap_or, is_some}
use Rattle.std.specs.List.{list_any}
use Rattle.std.specs.Ordering.{nat_cmp}
use Rattle.std.specs.Coded.{Coded, code_by, coded×, coded_ℕ, coded_list, coded_option}
use Rattle.std.specs.FinMap as fin
use Rattle.kp_layers.specs.Layering.{Layering, staged_of}
use Rattle.kp_layers.specs.Used.{is_used, is_written}
use Rattle.kp_model.specs.declared.node.Acl.{Acl}
use Rattle.kp_model.specs.declared.node.Meta.{Meta}
use Rattle.kp_model.specs.declared.session.Session.{Session}
use Rattle.kp_cells.specs.Naming.{Naming}
use Rattle.kp_cells.specs.Held.{AreHeld}

-- the numbers that each sealed layer wrote, the oldest first, those of the open layer, if there is one, and for how many more it has room
pub record Trace : Type 0 where
  pub layers : List (List ℕ)
  pub staged : Option (List ℕ)
  pub room : ℕ

abbrev pub trace_code : Coded Trace
trace_code = code_by (List (List ℕ) × (Option (List ℕ) × ℕ)) (coded× (coded_list (coded_list coded_ℕ)) (coded× (coded_option (coded_list coded_ℕ)) coded_ℕ)) (λ t. (t.layers, (t.staged, t.room))) (λ p. record { layers = p.0; staged = p.1.0; room = p.1.1 }) (λ _. refl)

-- no layers
abbrev pub no_trace : Trace
no_trace = record { layers = []; staged = None; room = 0 }

-- the numbers of the open layer
abbrev pub latest_in : Trace → List ℕ
latest_in t = unwrap_or t.staged []

-- whether the number is among those
abbrev pub is_in : ℕ → List ℕ → Bool
is_in n ns = list_any (nat_eq n) ns

-- one with the other, each in its place
module _ {V : Type 0} where
  -- each key of the writes is among the numbers
  abbrev pub HasKeys : List ℕ → List (ℕ × Option V) → Type 0
  HasKeys ns ws = (n : ℕ) → is_written nat_cmp ws n ≡ true → is_in n ns ≡ true

  -- there are as many lists of numbers as layers, and each has the keys of its layer
  abbrev pub HaveKeys : List (List ℕ) → List (List (ℕ × Option V)) → Type 0
  HaveKeys [] [] = ⊤
  HaveKeys [] (ws ∷ layers) = ⊥
  HaveKeys (ns ∷ trace) [] = ⊥
  HaveKeys (ns ∷ trace) (ws ∷ layers) = HasKeys ns ws × HaveKeys trace layers

  -- the trace has the keys of each layer
  pub record IsTraced (t : Trace) (l : Layering nat_cmp V) : Type 0 where
    pub layers : HaveKeys t.layers l.layers
    pub staged : HasKeys (latest_in t) (staged_of l)

-- whether a part has a value or a write at the number
abbrev pub uses : Layering nat_cmp Meta → Layering nat_cmp (List ℕ) → Layering nat_cmp (List Acl) → Layering nat_cmp (Unit {0}) → Layering nat_cmp ℕ → ℕ → Bool
uses metas contents acls children owners n = is_used metas n || (is_used contents n || (is_used acls n || (is_used children n || is_used owners n)))

-- the number that may be there, unless it is one of those and not in use
abbrev pub left : (ℕ → Bool) → List ℕ → Option ℕ → Option ℕ
left used ns None = None
left used ns (Some n) = cond (is_in n ns && not (used n)) None (Some n)

-- each path that has a number is in use
abbrev pub AreUsed : Naming → (ℕ → Bool) → Type 0
AreUsed names used = (p : List ℕ) (n : ℕ) → fin.get names.numbers p ≡ Some n → used n ≡ true

-- the parts hang together, a path has a number only if a part uses it, and the trace has what each layer wrote
pub record AreKept (names : Naming) (trace : Trace) (metas : Layering nat_cmp Meta) (contents : Layering nat_cmp (List ℕ)) (acls : Layering nat_cmp (List Acl)) (children : Layering nat_cmp (Unit {0})) (owners : Layering nat_cmp ℕ) (sessions : Layering nat_cmp Session) (next : Layering nat_cmp ℕ) : Type 0 where
  pub held : AreHeld names metas contents acls children owners sessions next
  pub used : AreUsed names (uses metas contents acls children owners)
  pub open_too : is_some trace.staged ≡ is_some metas.staged
  pub metas_traced : IsTraced trace metas
  pub contents_traced : IsTraced trace contents
  pub acls_traced : IsTraced trace acls
  pub children_traced : IsTraced trace children
  pub owners_traced : IsTraced trace owners
