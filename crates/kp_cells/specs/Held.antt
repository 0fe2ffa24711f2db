-- How the parts of a `Cells` hang together.
use Rattle.std.specs.Prelude.{◌≡◌, ℕ, List, length, is_some, refl}
use Rattle.std.specs.Ordering.{nat_cmp}
use Rattle.std.specs.Coded.{Coded, code_by, coded×, coded_ℕ, coded_list}
use Rattle.kp_layers.specs.Layering.{Layering, layering_code}
use Rattle.kp_model.specs.declared.node.Acl.{Acl}
use Rattle.kp_model.specs.declared.node.Meta.{Meta}
use Rattle.kp_model.specs.declared.session.Session.{Session}
use Rattle.kp_model.specs.contracts.node.Meta as meta
use Rattle.kp_model.specs.State.{path_cmp}
use Rattle.kp_model.specs.Codes.{bytes_code, acl_code, session_code}
use Rattle.kp_cells.specs.Overlays.{Overlays}
use Rattle.kp_cells.specs.Naming.{Naming, IsNaming, IsNamed, layers_by_path}

-- the one value of a set's entries is stored as 0
abbrev pub unit_code : Coded (Unit {0})
unit_code = code_by ℕ coded_ℕ (λ _. 0) (λ _. tt {0}) (λ _. refl)

-- the value is stored as the tuple of its fields
abbrev pub overlays_code : Coded Overlays
overlays_code = code_by
    (Layering path_cmp Meta × (Layering path_cmp (List ℕ) × (Layering path_cmp (List Acl) × (Layering path_cmp (Unit {0}) × (Layering path_cmp ℕ × (Layering nat_cmp Session × (Layering nat_cmp ℕ × ℕ)))))))
    (coded× (layering_code bytes_code meta.the_row.coded) (coded× (layering_code bytes_code bytes_code) (coded× (layering_code bytes_code (coded_list acl_code)) (coded× (layering_code bytes_code unit_code) (coded× (layering_code bytes_code coded_ℕ) (coded× (layering_code coded_ℕ session_code) (coded× (layering_code coded_ℕ coded_ℕ) coded_ℕ)))))))
    (λ o. (o.metas, (o.contents, (o.acls, (o.children, (o.owners, (o.sessions, (o.next, o.applied))))))))
    (λ p. record { metas = p.0; contents = p.1.0; acls = p.1.1.0; children = p.1.1.1.0; owners = p.1.1.1.1.0; sessions = p.1.1.1.1.1.0; next = p.1.1.1.1.1.1.0; applied = p.1.1.1.1.1.1.1 })
    (λ _. refl)

-- the parts, by paths
abbrev pub overlays : Naming → Layering nat_cmp Meta → Layering nat_cmp (List ℕ) → Layering nat_cmp (List Acl) → Layering nat_cmp (Unit {0}) → Layering nat_cmp ℕ → Layering nat_cmp Session → Layering nat_cmp ℕ → ℕ → Overlays
overlays names metas contents acls children owners sessions next applied = record {
  metas = layers_by_path names metas;
  contents = layers_by_path names contents;
  acls = layers_by_path names acls;
  children = layers_by_path names children;
  owners = layers_by_path names owners;
  sessions = sessions;
  next = next;
  applied = applied;
}

-- as many layers, and one open where one is open in the other
pub record AreAlike {V W : Type 0} (l : Layering nat_cmp V) (m : Layering nat_cmp W) : Type 0 where
  pub layers : length m.layers ≡ length l.layers
  pub staged : is_some m.staged ≡ is_some l.staged

-- only numbers of paths are in use, and all parts have as many layers
pub record AreHeld (names : Naming) (metas : Layering nat_cmp Meta) (contents : Layering nat_cmp (List ℕ)) (acls : Layering nat_cmp (List Acl)) (children : Layering nat_cmp (Unit {0})) (owners : Layering nat_cmp ℕ) (sessions : Layering nat_cmp Session) (next : Layering nat_cmp ℕ) : Type 0 where
  pub naming : IsNaming names
  pub metas_named : IsNamed names metas
  pub contents_named : IsNamed names contents
  pub acls_named : IsNamed names acls
  pub children_named : IsNamed names children
  pub owners_named : IsNamed names owners
  pub contents_alike : AreAlike metas contents
  pub acls_alike : AreAlike metas acls
  pub children_alike : AreAlike metas children
  pub owners_alike : AreAlike metas owners
  pub sessions_alike : AreAlike metas sessions
  pub next_alike : AreAlike metas next
