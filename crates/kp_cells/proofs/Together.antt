-- The parts of a `Cells` together.
use Rattle.std.proofs.Common.{◌≡◌, ℕ, ◌+◌, ◌-◌, Bool, true, false, List, [], ◌∷◌, take, length, Option, Some, None, IsSome, is_some, refl, ap, sym, ◌∙◌, subst, arith, length-append, length-drop}
use Rattle.std.specs.Prelude.{min, zero, suc, ◌<◌, ◌↔◌, IsTrue, if◌then◌else◌}
use Rattle.std.specs.Option.{option_map}
use Rattle.std.specs.declared.cmp.Ordering.{Ordering}
use Rattle.std.specs.Ordering.{nat_cmp}
use Rattle.std.specs.FinMap.{get}
use Rattle.std.proofs.lemmas.Grind.{common_steps}
use Rattle.kp_layers.specs.Layering.{Layering, staged_of, begun, written, undone, sealed, abandoned, front_committed, back_dropped, empty_layering}
use Rattle.kp_model.specs.State.{path_cmp}
use Rattle.kp_model.specs.declared.node.Acl.{Acl}
use Rattle.kp_model.specs.declared.node.Meta.{Meta}
use Rattle.kp_model.specs.declared.session.Session.{Session}
use Rattle.kp_cells.specs.declared.cells.CellsMark.{CellsMark}
use Rattle.kp_cells.specs.Naming.{Naming, IsNaming, IsNamed, Grows, layers_by_path}
use Rattle.kp_cells.specs.Overlays.{Overlays, applied_after, blank_overlays}
use Rattle.kp_cells.specs.Held.{overlays, AreAlike, AreHeld}
use Rattle.kp_cells.proofs.Named.{no_number}
use Rattle.kp_cells.proofs.ByPath.{written_by_path, sealed_by_path, undone_by_path, back_dropped_by_path, front_committed_by_path, named_written, named_begun, named_abandoned, named_sealed, named_undone, named_back_dropped, named_front_committed, named_empty, by_path_empty, grown_by_path, grown_named}

-- where the parts say that a layer is open, or that none is
pub is_open : {A B : Type 0} (f : A → B) (o : Option A) → IsSome (option_map f o) → IsSome o
is_open f (Some x) h = refl
is_open f None h = h

pub is_closed : {A B : Type 0} (f : A → B) (o : Option A) → option_map f o ≡ None → o ≡ None
is_closed f None e = refl
is_closed f (Some x) e = (cc)

none_of : {A : Type 0} (o : Option A) → is_some o ≡ false → o ≡ None
none_of None e = refl
none_of (Some x) e = (cc)

pub open_alike : {V W : Type 0} (l : Layering nat_cmp V) (m : Layering nat_cmp W) → AreAlike l m → IsSome l.staged → IsSome m.staged
open_alike l m h e = h.staged ∙ e

pub closed_alike : {V W : Type 0} (l : Layering nat_cmp V) (m : Layering nat_cmp W) → AreAlike l m → l.staged ≡ None → m.staged ≡ None
closed_alike l m h e = none_of m.staged (h.staged ∙ ap is_some e)

-- a layer that is opened and taken away
pub begun_abandoned : {V : Type 0} (l x y : Layering nat_cmp V) → x ≡ begun l → y ≡ abandoned x → l.staged ≡ None → y ≡ l
begun_abandoned l x y e f none = f ∙ ap abandoned e ∙ (λ i. record { base = l.base; layers = l.layers; staged = sym none i })

-- the same change of each part
module _ (op : (K : Type 0) (R : K → K → Ordering) (V : Type 0) → ℕ → Layering R V → Layering R V)
    (seen : (V : Type 0) (names : Naming) → IsNaming names → (k : ℕ) (l : Layering nat_cmp V) → IsNamed names l → layers_by_path names (op _ _ _ k l) ≡ op _ _ _ k (layers_by_path names l))
    (named : (V : Type 0) (names : Naming) → IsNaming names → (k : ℕ) (l : Layering nat_cmp V) → IsNamed names l → IsNamed names (op _ _ _ k l))
    (alike : (V W : Type 0) (j k : ℕ) (l : Layering nat_cmp V) (m : Layering nat_cmp W) → AreAlike l m → AreAlike (op _ _ _ j l) (op _ _ _ k m)) where
  abbrev all_op : CellsMark → Overlays → Overlays
  all_op k o = record { metas = op _ _ _ k.metas o.metas; contents = op _ _ _ k.contents o.contents; acls = op _ _ _ k.acls o.acls; children = op _ _ _ k.children o.children; owners = op _ _ _ k.owners o.owners; sessions = op _ _ _ k.sessions o.sessions; next = op _ _ _ k.next o.next; applied = o.applied }

  here : (names : Naming) (k : CellsMark) (metas : Layering nat_cmp Meta) (contents : Layering nat_cmp (List ℕ)) (acls : Layering nat_cmp (List Acl)) (children : Layering nat_cmp (Unit {0})) (owners : Layering nat_cmp ℕ) (sessions : Layering nat_cmp Session) (next : Layering nat_cmp ℕ) (applied : ℕ) → AreHeld names metas contents acls children owners sessions next → AreHeld names (op _ _ _ k.metas metas) (op _ _ _ k.contents contents) (op _ _ _ k.acls acls) (op _ _ _ k.children children) (op _ _ _ k.owners owners) (op _ _ _ k.sessions sessions) (op _ _ _ k.next next) × (overlays names (op _ _ _ k.metas metas) (op _ _ _ k.contents contents) (op _ _ _ k.acls acls) (op _ _ _ k.children children) (op _ _ _ k.owners owners) (op _ _ _ k.sessions sessions) (op _ _ _ k.next next) applied ≡ all_op k (overlays names metas contents acls children owners sessions next applied))
  here names k metas contents acls children owners sessions next applied h = (
    record {
      naming = h.naming;
      metas_named = named _ names h.naming k.metas metas h.metas_named;
      contents_named = named _ names h.naming k.contents contents h.contents_named;
      acls_named = named _ names h.naming k.acls acls h.acls_named;
      children_named = named _ names h.naming k.children children h.children_named;
      owners_named = named _ names h.naming k.owners owners h.owners_named;
      contents_alike = alike _ _ k.metas k.contents metas contents h.contents_alike;
      acls_alike = alike _ _ k.metas k.acls metas acls h.acls_alike;
      children_alike = alike _ _ k.metas k.children metas children h.children_alike;
      owners_alike = alike _ _ k.metas k.owners metas owners h.owners_alike;
      sessions_alike = alike _ _ k.metas k.sessions metas sessions h.sessions_alike;
      next_alike = alike _ _ k.metas k.next metas next h.next_alike;
    },
    let e_metas : layers_by_path names (op _ _ _ k.metas metas) ≡ op _ _ _ k.metas (layers_by_path names metas) = seen _ names h.naming k.metas metas h.metas_named in
        let e_contents : layers_by_path names (op _ _ _ k.contents contents) ≡ op _ _ _ k.contents (layers_by_path names contents) = seen _ names h.naming k.contents contents h.contents_named in
        let e_acls : layers_by_path names (op _ _ _ k.acls acls) ≡ op _ _ _ k.acls (layers_by_path names acls) = seen _ names h.naming k.acls acls h.acls_named in
        let e_children : layers_by_path names (op _ _ _ k.children children) ≡ op _ _ _ k.children (layers_by_path names children) = seen _ names h.naming k.children children h.children_named in
        let e_owners : layers_by_path names (op _ _ _ k.owners owners) ≡ op _ _ _ k.owners (layers_by_path names owners) = seen _ names h.naming k.owners owners h.owners_named in
        λ i. record { metas = e_metas i; contents = e_contents i; acls = e_acls i; children = e_children i; owners = e_owners i; sessions = op _ _ _ k.sessions sessions; next = op _ _ _ k.next next; applied = applied },
  )

  pub moved : (names : Naming) (k : CellsMark) (metas metas' : Layering nat_cmp Meta) (contents contents' : Layering nat_cmp (List ℕ)) (acls acls' : Layering nat_cmp (List Acl)) (children children' : Layering nat_cmp (Unit {0})) (owners owners' : Layering nat_cmp ℕ) (sessions sessions' : Layering nat_cmp Session) (next next' : Layering nat_cmp ℕ) (applied : ℕ) → metas' ≡ op _ _ _ k.metas metas → contents' ≡ op _ _ _ k.contents contents → acls' ≡ op _ _ _ k.acls acls → children' ≡ op _ _ _ k.children children → owners' ≡ op _ _ _ k.owners owners → sessions' ≡ op _ _ _ k.sessions sessions → next' ≡ op _ _ _ k.next next → AreHeld names metas contents acls children owners sessions next → AreHeld names metas' contents' acls' children' owners' sessions' next' × (overlays names metas' contents' acls' children' owners' sessions' next' applied ≡ all_op k (overlays names metas contents acls children owners sessions next applied))
  moved names k metas metas' contents contents' acls acls' children children' owners owners' sessions sessions' next next' applied e_metas e_contents e_acls e_children e_owners e_sessions e_next h =
      let P : Layering nat_cmp Meta → Layering nat_cmp (List ℕ) → Layering nat_cmp (List Acl) → Layering nat_cmp (Unit {0}) → Layering nat_cmp ℕ → Layering nat_cmp Session → Layering nat_cmp ℕ → Type 0 = λ x_metas x_contents x_acls x_children x_owners x_sessions x_next. AreHeld names x_metas x_contents x_acls x_children x_owners x_sessions x_next × (overlays names x_metas x_contents x_acls x_children x_owners x_sessions x_next applied ≡ all_op k (overlays names metas contents acls children owners sessions next applied)) in
      subst (λ x. P metas' contents' acls' children' owners' sessions' x) (sym e_next) (subst (λ x. P metas' contents' acls' children' owners' x (op _ _ _ k.next next)) (sym e_sessions) (subst (λ x. P metas' contents' acls' children' x (op _ _ _ k.sessions sessions) (op _ _ _ k.next next)) (sym e_owners) (subst (λ x. P metas' contents' acls' x (op _ _ _ k.owners owners) (op _ _ _ k.sessions sessions) (op _ _ _ k.next next)) (sym e_children) (subst (λ x. P metas' contents' x (op _ _ _ k.children children) (op _ _ _ k.owners owners) (op _ _ _ k.sessions sessions) (op _ _ _ k.next next)) (sym e_acls) (subst (λ x. P metas' x (op _ _ _ k.acls acls) (op _ _ _ k.children children) (op _ _ _ k.owners owners) (op _ _ _ k.sessions sessions) (op _ _ _ k.next next)) (sym e_contents) (subst (λ x. P x (op _ _ _ k.contents contents) (op _ _ _ k.acls acls) (op _ _ _ k.children children) (op _ _ _ k.owners owners) (op _ _ _ k.sessions sessions) (op _ _ _ k.next next)) (sym e_metas) (here names k metas contents acls children owners sessions next applied h)))))))

length_front : {A : Type 0} (xs : List A) → length (take (length xs - 1) xs) ≡ length xs - 1
length_front xs = grind (arith, common_steps)

pub all_begun_is : (names : Naming) (k : CellsMark) (metas metas' : Layering nat_cmp Meta) (contents contents' : Layering nat_cmp (List ℕ)) (acls acls' : Layering nat_cmp (List Acl)) (children children' : Layering nat_cmp (Unit {0})) (owners owners' : Layering nat_cmp ℕ) (sessions sessions' : Layering nat_cmp Session) (next next' : Layering nat_cmp ℕ) (applied : ℕ) → metas' ≡ begun metas → contents' ≡ begun contents → acls' ≡ begun acls → children' ≡ begun children → owners' ≡ begun owners → sessions' ≡ begun sessions → next' ≡ begun next → AreHeld names metas contents acls children owners sessions next → AreHeld names metas' contents' acls' children' owners' sessions' next' × (overlays names metas' contents' acls' children' owners' sessions' next' applied ≡ record { metas = begun (layers_by_path names metas); contents = begun (layers_by_path names contents); acls = begun (layers_by_path names acls); children = begun (layers_by_path names children); owners = begun (layers_by_path names owners); sessions = begun sessions; next = begun next; applied = applied })
all_begun_is = moved (λ K R V k l. begun l) (λ V names h k l n. refl) (λ V names h k l n. named_begun names h l n) (λ V W j k l m h. record { layers = h.layers; staged = refl })

pub all_abandoned_is : (names : Naming) (k : CellsMark) (metas metas' : Layering nat_cmp Meta) (contents contents' : Layering nat_cmp (List ℕ)) (acls acls' : Layering nat_cmp (List Acl)) (children children' : Layering nat_cmp (Unit {0})) (owners owners' : Layering nat_cmp ℕ) (sessions sessions' : Layering nat_cmp Session) (next next' : Layering nat_cmp ℕ) (applied : ℕ) → metas' ≡ abandoned metas → contents' ≡ abandoned contents → acls' ≡ abandoned acls → children' ≡ abandoned children → owners' ≡ abandoned owners → sessions' ≡ abandoned sessions → next' ≡ abandoned next → AreHeld names metas contents acls children owners sessions next → AreHeld names metas' contents' acls' children' owners' sessions' next' × (overlays names metas' contents' acls' children' owners' sessions' next' applied ≡ record { metas = abandoned (layers_by_path names metas); contents = abandoned (layers_by_path names contents); acls = abandoned (layers_by_path names acls); children = abandoned (layers_by_path names children); owners = abandoned (layers_by_path names owners); sessions = abandoned sessions; next = abandoned next; applied = applied })
all_abandoned_is = moved (λ K R V k l. abandoned l) (λ V names h k l n. refl) (λ V names h k l n. named_abandoned names h l n) (λ V W j k l m h. record { layers = h.layers; staged = refl })

pub all_undone_is : (names : Naming) (k : CellsMark) (metas metas' : Layering nat_cmp Meta) (contents contents' : Layering nat_cmp (List ℕ)) (acls acls' : Layering nat_cmp (List Acl)) (children children' : Layering nat_cmp (Unit {0})) (owners owners' : Layering nat_cmp ℕ) (sessions sessions' : Layering nat_cmp Session) (next next' : Layering nat_cmp ℕ) (applied : ℕ) → metas' ≡ undone metas k.metas → contents' ≡ undone contents k.contents → acls' ≡ undone acls k.acls → children' ≡ undone children k.children → owners' ≡ undone owners k.owners → sessions' ≡ undone sessions k.sessions → next' ≡ undone next k.next → AreHeld names metas contents acls children owners sessions next → AreHeld names metas' contents' acls' children' owners' sessions' next' × (overlays names metas' contents' acls' children' owners' sessions' next' applied ≡ record { metas = undone (layers_by_path names metas) k.metas; contents = undone (layers_by_path names contents) k.contents; acls = undone (layers_by_path names acls) k.acls; children = undone (layers_by_path names children) k.children; owners = undone (layers_by_path names owners) k.owners; sessions = undone sessions k.sessions; next = undone next k.next; applied = applied })
all_undone_is = moved (λ K R V k l. undone l k) (λ V names h k l n. undone_by_path names h l k) (λ V names h k l n. named_undone names h l k n) (λ V W j k l m h. record { layers = h.layers; staged = refl })

pub all_sealed_is : (names : Naming) (k : CellsMark) (metas metas' : Layering nat_cmp Meta) (contents contents' : Layering nat_cmp (List ℕ)) (acls acls' : Layering nat_cmp (List Acl)) (children children' : Layering nat_cmp (Unit {0})) (owners owners' : Layering nat_cmp ℕ) (sessions sessions' : Layering nat_cmp Session) (next next' : Layering nat_cmp ℕ) (applied : ℕ) → metas' ≡ sealed metas → contents' ≡ sealed contents → acls' ≡ sealed acls → children' ≡ sealed children → owners' ≡ sealed owners → sessions' ≡ sealed sessions → next' ≡ sealed next → AreHeld names metas contents acls children owners sessions next → AreHeld names metas' contents' acls' children' owners' sessions' next' × (overlays names metas' contents' acls' children' owners' sessions' next' applied ≡ record { metas = sealed (layers_by_path names metas); contents = sealed (layers_by_path names contents); acls = sealed (layers_by_path names acls); children = sealed (layers_by_path names children); owners = sealed (layers_by_path names owners); sessions = sealed sessions; next = sealed next; applied = applied })
all_sealed_is = moved (λ K R V k l. sealed l) (λ V names h k l n. sealed_by_path names h l) (λ V names h k l n. named_sealed names h l n) (λ V W j k l m h. record { layers = omega (arith, h.layers, length-append l.layers (staged_of l ∷ []), length-append m.layers (staged_of m ∷ [])); staged = refl })

pub all_committed_is : (names : Naming) (k : CellsMark) (metas metas' : Layering nat_cmp Meta) (contents contents' : Layering nat_cmp (List ℕ)) (acls acls' : Layering nat_cmp (List Acl)) (children children' : Layering nat_cmp (Unit {0})) (owners owners' : Layering nat_cmp ℕ) (sessions sessions' : Layering nat_cmp Session) (next next' : Layering nat_cmp ℕ) (applied : ℕ) → metas' ≡ front_committed metas → contents' ≡ front_committed contents → acls' ≡ front_committed acls → children' ≡ front_committed children → owners' ≡ front_committed owners → sessions' ≡ front_committed sessions → next' ≡ front_committed next → AreHeld names metas contents acls children owners sessions next → AreHeld names metas' contents' acls' children' owners' sessions' next' × (overlays names metas' contents' acls' children' owners' sessions' next' applied ≡ record { metas = front_committed (layers_by_path names metas); contents = front_committed (layers_by_path names contents); acls = front_committed (layers_by_path names acls); children = front_committed (layers_by_path names children); owners = front_committed (layers_by_path names owners); sessions = front_committed sessions; next = front_committed next; applied = applied })
all_committed_is = moved (λ K R V k l. front_committed l) (λ V names h k l n. front_committed_by_path names h l n) (λ V names h k l n. named_front_committed names h l n) (λ V W j k l m h. record { layers = omega (arith, h.layers, length-drop 1 l.layers, length-drop 1 m.layers); staged = h.staged })

pub all_dropped_is : (names : Naming) (k : CellsMark) (metas metas' : Layering nat_cmp Meta) (contents contents' : Layering nat_cmp (List ℕ)) (acls acls' : Layering nat_cmp (List Acl)) (children children' : Layering nat_cmp (Unit {0})) (owners owners' : Layering nat_cmp ℕ) (sessions sessions' : Layering nat_cmp Session) (next next' : Layering nat_cmp ℕ) (applied : ℕ) → metas' ≡ back_dropped metas → contents' ≡ back_dropped contents → acls' ≡ back_dropped acls → children' ≡ back_dropped children → owners' ≡ back_dropped owners → sessions' ≡ back_dropped sessions → next' ≡ back_dropped next → AreHeld names metas contents acls children owners sessions next → AreHeld names metas' contents' acls' children' owners' sessions' next' × (overlays names metas' contents' acls' children' owners' sessions' next' applied ≡ record { metas = back_dropped (layers_by_path names metas); contents = back_dropped (layers_by_path names contents); acls = back_dropped (layers_by_path names acls); children = back_dropped (layers_by_path names children); owners = back_dropped (layers_by_path names owners); sessions = back_dropped sessions; next = back_dropped next; applied = applied })
all_dropped_is = moved (λ K R V k l. back_dropped l) (λ V names h k l n. back_dropped_by_path names h l) (λ V names h k l n. named_back_dropped names h l n) (λ V W j k l m h. record { layers = omega (arith, h.layers, length_front l.layers, length_front m.layers); staged = h.staged })

pub same_parts : (names : Naming) (k : CellsMark) (metas metas' : Layering nat_cmp Meta) (contents contents' : Layering nat_cmp (List ℕ)) (acls acls' : Layering nat_cmp (List Acl)) (children children' : Layering nat_cmp (Unit {0})) (owners owners' : Layering nat_cmp ℕ) (sessions sessions' : Layering nat_cmp Session) (next next' : Layering nat_cmp ℕ) (applied : ℕ) → metas' ≡ metas → contents' ≡ contents → acls' ≡ acls → children' ≡ children → owners' ≡ owners → sessions' ≡ sessions → next' ≡ next → AreHeld names metas contents acls children owners sessions next → AreHeld names metas' contents' acls' children' owners' sessions' next' × (overlays names metas' contents' acls' children' owners' sessions' next' applied ≡ record { metas = (layers_by_path names metas); contents = (layers_by_path names contents); acls = (layers_by_path names acls); children = (layers_by_path names children); owners = (layers_by_path names owners); sessions = sessions; next = next; applied = applied })
same_parts = moved (λ K R V k l. l) (λ V names h k l n. refl) (λ V names h k l n. n) (λ V W j k l m h. h)

-- names that have grown
pub after_give : (names names' : Naming) (metas metas' : Layering nat_cmp Meta) (contents contents' : Layering nat_cmp (List ℕ)) (acls acls' : Layering nat_cmp (List Acl)) (children children' : Layering nat_cmp (Unit {0})) (owners owners' : Layering nat_cmp ℕ) (sessions sessions' : Layering nat_cmp Session) (next next' : Layering nat_cmp ℕ) (applied : ℕ) → IsNaming names' → Grows names names' → metas' ≡ metas → contents' ≡ contents → acls' ≡ acls → children' ≡ children → owners' ≡ owners → sessions' ≡ sessions → next' ≡ next → AreHeld names metas contents acls children owners sessions next → AreHeld names' metas' contents' acls' children' owners' sessions' next' × (overlays names' metas' contents' acls' children' owners' sessions' next' applied ≡ overlays names metas contents acls children owners sessions next applied)
after_give names names' metas metas' contents contents' acls acls' children children' owners owners' sessions sessions' next next' applied h' grows e_metas e_contents e_acls e_children e_owners e_sessions e_next h =
    let held : AreHeld names' metas contents acls children owners sessions next = record {
      naming = h';
      metas_named = grown_named names names' h.naming h' grows metas h.metas_named;
      contents_named = grown_named names names' h.naming h' grows contents h.contents_named;
      acls_named = grown_named names names' h.naming h' grows acls h.acls_named;
      children_named = grown_named names names' h.naming h' grows children h.children_named;
      owners_named = grown_named names names' h.naming h' grows owners h.owners_named;
      contents_alike = h.contents_alike;
      acls_alike = h.acls_alike;
      children_alike = h.children_alike;
      owners_alike = h.owners_alike;
      sessions_alike = h.sessions_alike;
      next_alike = h.next_alike;
    } in
    let g_metas : layers_by_path names' metas ≡ layers_by_path names metas = grown_by_path names names' h.naming h' grows metas h.metas_named in
    let g_contents : layers_by_path names' contents ≡ layers_by_path names contents = grown_by_path names names' h.naming h' grows contents h.contents_named in
    let g_acls : layers_by_path names' acls ≡ layers_by_path names acls = grown_by_path names names' h.naming h' grows acls h.acls_named in
    let g_children : layers_by_path names' children ≡ layers_by_path names children = grown_by_path names names' h.naming h' grows children h.children_named in
    let g_owners : layers_by_path names' owners ≡ layers_by_path names owners = grown_by_path names names' h.naming h' grows owners h.owners_named in
    let same : overlays names' metas contents acls children owners sessions next applied ≡ overlays names metas contents acls children owners sessions next applied = λ i. record { metas = g_metas i; contents = g_contents i; acls = g_acls i; children = g_children i; owners = g_owners i; sessions = sessions; next = next; applied = applied } in
    let parts : AreHeld names' metas' contents' acls' children' owners' sessions' next' × (overlays names' metas' contents' acls' children' owners' sessions' next' applied ≡ overlays names' metas contents acls children owners sessions next applied) = same_parts names' (record { metas = 0; contents = 0; acls = 0; children = 0; owners = 0; sessions = 0; next = 0 }) metas metas' contents contents' acls acls' children children' owners owners' sessions sessions' next next' applied e_metas e_contents e_acls e_children e_owners e_sessions e_next held in
    (parts.0, parts.1 ∙ same)

-- a write of the part `metas`
metas_written : (names : Naming) (metas : Layering nat_cmp Meta) (contents : Layering nat_cmp (List ℕ)) (acls : Layering nat_cmp (List Acl)) (children : Layering nat_cmp (Unit {0})) (owners : Layering nat_cmp ℕ) (sessions : Layering nat_cmp Session) (next : Layering nat_cmp ℕ) (applied : ℕ) (path : List ℕ) (number : ℕ) (value : Option Meta) → get names.numbers path ≡ Some number → IsSome metas.staged → AreHeld names metas contents acls children owners sessions next → AreHeld names (written metas number value) contents acls children owners sessions next × (overlays names (written metas number value) contents acls children owners sessions next applied ≡ record { metas = written (layers_by_path names metas) path value; contents = layers_by_path names contents; acls = layers_by_path names acls; children = layers_by_path names children; owners = layers_by_path names owners; sessions = sessions; next = next; applied = applied })
metas_written names metas contents acls children owners sessions next applied path number value is there h = (
  record {
    naming = h.naming;
    metas_named = named_written names h.naming metas number value (path, is) h.metas_named;
    contents_named = h.contents_named;
    acls_named = h.acls_named;
    children_named = h.children_named;
    owners_named = h.owners_named;
    contents_alike = record { layers = h.contents_alike.layers; staged = h.contents_alike.staged ∙ there };
    acls_alike = record { layers = h.acls_alike.layers; staged = h.acls_alike.staged ∙ there };
    children_alike = record { layers = h.children_alike.layers; staged = h.children_alike.staged ∙ there };
    owners_alike = record { layers = h.owners_alike.layers; staged = h.owners_alike.staged ∙ there };
    sessions_alike = record { layers = h.sessions_alike.layers; staged = h.sessions_alike.staged ∙ there };
    next_alike = record { layers = h.next_alike.layers; staged = h.next_alike.staged ∙ there };
  },
  let e : layers_by_path names (written metas number value) ≡ written (layers_by_path names metas) path value = written_by_path names h.naming metas path number value is in
      λ i. record { metas = e i; contents = layers_by_path names contents; acls = layers_by_path names acls; children = layers_by_path names children; owners = layers_by_path names owners; sessions = sessions; next = next; applied = applied },
)

pub after_metas : (names names' : Naming) (metas metas' : Layering nat_cmp Meta) (contents : Layering nat_cmp (List ℕ)) (acls : Layering nat_cmp (List Acl)) (children : Layering nat_cmp (Unit {0})) (owners : Layering nat_cmp ℕ) (sessions : Layering nat_cmp Session) (next : Layering nat_cmp ℕ) (applied : ℕ) (path : List ℕ) (number : ℕ) (value : Option Meta) → IsNaming names' → Grows names names' → get names'.numbers path ≡ Some number → metas' ≡ written metas number value → IsSome metas.staged → AreHeld names metas contents acls children owners sessions next → AreHeld names' metas' contents acls children owners sessions next × (overlays names' metas' contents acls children owners sessions next applied ≡ record { metas = written (layers_by_path names metas) path value; contents = layers_by_path names contents; acls = layers_by_path names acls; children = layers_by_path names children; owners = layers_by_path names owners; sessions = sessions; next = next; applied = applied })
after_metas names names' metas metas' contents acls children owners sessions next applied path number value h' grows is e there h =
    let g : AreHeld names' metas contents acls children owners sessions next × (overlays names' metas contents acls children owners sessions next applied ≡ overlays names metas contents acls children owners sessions next applied) = after_give names names' metas metas contents contents acls acls children children owners owners sessions sessions next next applied h' grows refl refl refl refl refl refl refl h in
    let w : AreHeld names' (written metas number value) contents acls children owners sessions next × (overlays names' (written metas number value) contents acls children owners sessions next applied ≡ record { metas = written (layers_by_path names' metas) path value; contents = layers_by_path names' contents; acls = layers_by_path names' acls; children = layers_by_path names' children; owners = layers_by_path names' owners; sessions = sessions; next = next; applied = applied }) = metas_written names' metas contents acls children owners sessions next applied path number value is there g.0 in
    let P : Layering nat_cmp Meta → Type 0 = λ x. AreHeld names' x contents acls children owners sessions next × (overlays names' x contents acls children owners sessions next applied ≡ record { metas = written (layers_by_path names metas) path value; contents = layers_by_path names contents; acls = layers_by_path names acls; children = layers_by_path names children; owners = layers_by_path names owners; sessions = sessions; next = next; applied = applied }) in
    subst P (sym e) (w.0, w.1 ∙ ap (λ o. record { metas = written o.metas path value; contents = o.contents; acls = o.acls; children = o.children; owners = o.owners; sessions = o.sessions; next = o.next; applied = o.applied }) g.1)

-- a write of the part `contents`
contents_written : (names : Naming) (metas : Layering nat_cmp Meta) (contents : Layering nat_cmp (List ℕ)) (acls : Layering nat_cmp (List Acl)) (children : Layering nat_cmp (Unit {0})) (owners : Layering nat_cmp ℕ) (sessions : Layering nat_cmp Session) (next : Layering nat_cmp ℕ) (applied : ℕ) (path : List ℕ) (number : ℕ) (value : Option (List ℕ)) → get names.numbers path ≡ Some number → IsSome metas.staged → AreHeld names metas contents acls children owners sessions next → AreHeld names metas (written contents number value) acls children owners sessions next × (overlays names metas (written contents number value) acls children owners sessions next applied ≡ record { metas = layers_by_path names metas; contents = written (layers_by_path names contents) path value; acls = layers_by_path names acls; children = layers_by_path names children; owners = layers_by_path names owners; sessions = sessions; next = next; applied = applied })
contents_written names metas contents acls children owners sessions next applied path number value is there h = (
  record {
    naming = h.naming;
    metas_named = h.metas_named;
    contents_named = named_written names h.naming contents number value (path, is) h.contents_named;
    acls_named = h.acls_named;
    children_named = h.children_named;
    owners_named = h.owners_named;
    contents_alike = record { layers = h.contents_alike.layers; staged = sym there };
    acls_alike = h.acls_alike;
    children_alike = h.children_alike;
    owners_alike = h.owners_alike;
    sessions_alike = h.sessions_alike;
    next_alike = h.next_alike;
  },
  let e : layers_by_path names (written contents number value) ≡ written (layers_by_path names contents) path value = written_by_path names h.naming contents path number value is in
      λ i. record { metas = layers_by_path names metas; contents = e i; acls = layers_by_path names acls; children = layers_by_path names children; owners = layers_by_path names owners; sessions = sessions; next = next; applied = applied },
)

pub after_contents : (names names' : Naming) (metas : Layering nat_cmp Meta) (contents contents' : Layering nat_cmp (List ℕ)) (acls : Layering nat_cmp (List Acl)) (children : Layering nat_cmp (Unit {0})) (owners : Layering nat_cmp ℕ) (sessions : Layering nat_cmp Session) (next : Layering nat_cmp ℕ) (applied : ℕ) (path : List ℕ) (number : ℕ) (value : Option (List ℕ)) → IsNaming names' → Grows names names' → get names'.numbers path ≡ Some number → contents' ≡ written contents number value → IsSome metas.staged → AreHeld names metas contents acls children owners sessions next → AreHeld names' metas contents' acls children owners sessions next × (overlays names' metas contents' acls children owners sessions next applied ≡ record { metas = layers_by_path names metas; contents = written (layers_by_path names contents) path value; acls = layers_by_path names acls; children = layers_by_path names children; owners = layers_by_path names owners; sessions = sessions; next = next; applied = applied })
after_contents names names' metas contents contents' acls children owners sessions next applied path number value h' grows is e there h =
    let g : AreHeld names' metas contents acls children owners sessions next × (overlays names' metas contents acls children owners sessions next applied ≡ overlays names metas contents acls children owners sessions next applied) = after_give names names' metas metas contents contents acls acls children children owners owners sessions sessions next next applied h' grows refl refl refl refl refl refl refl h in
    let w : AreHeld names' metas (written contents number value) acls children owners sessions next × (overlays names' metas (written contents number value) acls children owners sessions next applied ≡ record { metas = layers_by_path names' metas; contents = written (layers_by_path names' contents) path value; acls = layers_by_path names' acls; children = layers_by_path names' children; owners = layers_by_path names' owners; sessions = sessions; next = next; applied = applied }) = contents_written names' metas contents acls children owners sessions next applied path number value is there g.0 in
    let P : Layering nat_cmp (List ℕ) → Type 0 = λ x. AreHeld names' metas x acls children owners sessions next × (overlays names' metas x acls children owners sessions next applied ≡ record { metas = layers_by_path names metas; contents = written (layers_by_path names contents) path value; acls = layers_by_path names acls; children = layers_by_path names children; owners = layers_by_path names owners; sessions = sessions; next = next; applied = applied }) in
    subst P (sym e) (w.0, w.1 ∙ ap (λ o. record { metas = o.metas; contents = written o.contents path value; acls = o.acls; children = o.children; owners = o.owners; sessions = o.sessions; next = o.next; applied = o.applied }) g.1)

-- a write of the part `acls`
acls_written : (names : Naming) (metas : Layering nat_cmp Meta) (contents : Layering nat_cmp (List ℕ)) (acls : Layering nat_cmp (List Acl)) (children : Layering nat_cmp (Unit {0})) (owners : Layering nat_cmp ℕ) (sessions : Layering nat_cmp Session) (next : Layering nat_cmp ℕ) (applied : ℕ) (path : List ℕ) (number : ℕ) (value : Option (List Acl)) → get names.numbers path ≡ Some number → IsSome metas.staged → AreHeld names metas contents acls children owners sessions next → AreHeld names metas contents (written acls number value) children owners sessions next × (overlays names metas contents (written acls number value) children owners sessions next applied ≡ record { metas = layers_by_path names metas; contents = layers_by_path names contents; acls = written (layers_by_path names acls) path value; children = layers_by_path names children; owners = layers_by_path names owners; sessions = sessions; next = next; applied = applied })
acls_written names metas contents acls children owners sessions next applied path number value is there h = (
  record {
    naming = h.naming;
    metas_named = h.metas_named;
    contents_named = h.contents_named;
    acls_named = named_written names h.naming acls number value (path, is) h.acls_named;
    children_named = h.children_named;
    owners_named = h.owners_named;
    contents_alike = h.contents_alike;
    acls_alike = record { layers = h.acls_alike.layers; staged = sym there };
    children_alike = h.children_alike;
    owners_alike = h.owners_alike;
    sessions_alike = h.sessions_alike;
    next_alike = h.next_alike;
  },
  let e : layers_by_path names (written acls number value) ≡ written (layers_by_path names acls) path value = written_by_path names h.naming acls path number value is in
      λ i. record { metas = layers_by_path names metas; contents = layers_by_path names contents; acls = e i; children = layers_by_path names children; owners = layers_by_path names owners; sessions = sessions; next = next; applied = applied },
)

pub after_acls : (names names' : Naming) (metas : Layering nat_cmp Meta) (contents : Layering nat_cmp (List ℕ)) (acls acls' : Layering nat_cmp (List Acl)) (children : Layering nat_cmp (Unit {0})) (owners : Layering nat_cmp ℕ) (sessions : Layering nat_cmp Session) (next : Layering nat_cmp ℕ) (applied : ℕ) (path : List ℕ) (number : ℕ) (value : Option (List Acl)) → IsNaming names' → Grows names names' → get names'.numbers path ≡ Some number → acls' ≡ written acls number value → IsSome metas.staged → AreHeld names metas contents acls children owners sessions next → AreHeld names' metas contents acls' children owners sessions next × (overlays names' metas contents acls' children owners sessions next applied ≡ record { metas = layers_by_path names metas; contents = layers_by_path names contents; acls = written (layers_by_path names acls) path value; children = layers_by_path names children; owners = layers_by_path names owners; sessions = sessions; next = next; applied = applied })
after_acls names names' metas contents acls acls' children owners sessions next applied path number value h' grows is e there h =
    let g : AreHeld names' metas contents acls children owners sessions next × (overlays names' metas contents acls children owners sessions next applied ≡ overlays names metas contents acls children owners sessions next applied) = after_give names names' metas metas contents contents acls acls children children owners owners sessions sessions next next applied h' grows refl refl refl refl refl refl refl h in
    let w : AreHeld names' metas contents (written acls number value) children owners sessions next × (overlays names' metas contents (written acls number value) children owners sessions next applied ≡ record { metas = layers_by_path names' metas; contents = layers_by_path names' contents; acls = written (layers_by_path names' acls) path value; children = layers_by_path names' children; owners = layers_by_path names' owners; sessions = sessions; next = next; applied = applied }) = acls_written names' metas contents acls children owners sessions next applied path number value is there g.0 in
    let P : Layering nat_cmp (List Acl) → Type 0 = λ x. AreHeld names' metas contents x children owners sessions next × (overlays names' metas contents x children owners sessions next applied ≡ record { metas = layers_by_path names metas; contents = layers_by_path names contents; acls = written (layers_by_path names acls) path value; children = layers_by_path names children; owners = layers_by_path names owners; sessions = sessions; next = next; applied = applied }) in
    subst P (sym e) (w.0, w.1 ∙ ap (λ o. record { metas = o.metas; contents = o.contents; acls = written o.acls path value; children = o.children; owners = o.owners; sessions = o.sessions; next = o.next; applied = o.applied }) g.1)

-- a write of the part `children`
children_written : (names : Naming) (metas : Layering nat_cmp Meta) (contents : Layering nat_cmp (List ℕ)) (acls : Layering nat_cmp (List Acl)) (children : Layering nat_cmp (Unit {0})) (owners : Layering nat_cmp ℕ) (sessions : Layering nat_cmp Session) (next : Layering nat_cmp ℕ) (applied : ℕ) (path : List ℕ) (number : ℕ) (value : Option (Unit {0})) → get names.numbers path ≡ Some number → IsSome metas.staged → AreHeld names metas contents acls children owners sessions next → AreHeld names metas contents acls (written children number value) owners sessions next × (overlays names metas contents acls (written children number value) owners sessions next applied ≡ record { metas = layers_by_path names metas; contents = layers_by_path names contents; acls = layers_by_path names acls; children = written (layers_by_path names children) path value; owners = layers_by_path names owners; sessions = sessions; next = next; applied = applied })
children_written names metas contents acls children owners sessions next applied path number value is there h = (
  record {
    naming = h.naming;
    metas_named = h.metas_named;
    contents_named = h.contents_named;
    acls_named = h.acls_named;
    children_named = named_written names h.naming children number value (path, is) h.children_named;
    owners_named = h.owners_named;
    contents_alike = h.contents_alike;
    acls_alike = h.acls_alike;
    children_alike = record { layers = h.children_alike.layers; staged = sym there };
    owners_alike = h.owners_alike;
    sessions_alike = h.sessions_alike;
    next_alike = h.next_alike;
  },
  let e : layers_by_path names (written children number value) ≡ written (layers_by_path names children) path value = written_by_path names h.naming children path number value is in
      λ i. record { metas = layers_by_path names metas; contents = layers_by_path names contents; acls = layers_by_path names acls; children = e i; owners = layers_by_path names owners; sessions = sessions; next = next; applied = applied },
)

pub after_children : (names names' : Naming) (metas : Layering nat_cmp Meta) (contents : Layering nat_cmp (List ℕ)) (acls : Layering nat_cmp (List Acl)) (children children' : Layering nat_cmp (Unit {0})) (owners : Layering nat_cmp ℕ) (sessions : Layering nat_cmp Session) (next : Layering nat_cmp ℕ) (applied : ℕ) (path : List ℕ) (number : ℕ) (value : Option (Unit {0})) → IsNaming names' → Grows names names' → get names'.numbers path ≡ Some number → children' ≡ written children number value → IsSome metas.staged → AreHeld names metas contents acls children owners sessions next → AreHeld names' metas contents acls children' owners sessions next × (overlays names' metas contents acls children' owners sessions next applied ≡ record { metas = layers_by_path names metas; contents = layers_by_path names contents; acls = layers_by_path names acls; children = written (layers_by_path names children) path value; owners = layers_by_path names owners; sessions = sessions; next = next; applied = applied })
after_children names names' metas contents acls children children' owners sessions next applied path number value h' grows is e there h =
    let g : AreHeld names' metas contents acls children owners sessions next × (overlays names' metas contents acls children owners sessions next applied ≡ overlays names metas contents acls children owners sessions next applied) = after_give names names' metas metas contents contents acls acls children children owners owners sessions sessions next next applied h' grows refl refl refl refl refl refl refl h in
    let w : AreHeld names' metas contents acls (written children number value) owners sessions next × (overlays names' metas contents acls (written children number value) owners sessions next applied ≡ record { metas = layers_by_path names' metas; contents = layers_by_path names' contents; acls = layers_by_path names' acls; children = written (layers_by_path names' children) path value; owners = layers_by_path names' owners; sessions = sessions; next = next; applied = applied }) = children_written names' metas contents acls children owners sessions next applied path number value is there g.0 in
    let P : Layering nat_cmp (Unit {0}) → Type 0 = λ x. AreHeld names' metas contents acls x owners sessions next × (overlays names' metas contents acls x owners sessions next applied ≡ record { metas = layers_by_path names metas; contents = layers_by_path names contents; acls = layers_by_path names acls; children = written (layers_by_path names children) path value; owners = layers_by_path names owners; sessions = sessions; next = next; applied = applied }) in
    subst P (sym e) (w.0, w.1 ∙ ap (λ o. record { metas = o.metas; contents = o.contents; acls = o.acls; children = written o.children path value; owners = o.owners; sessions = o.sessions; next = o.next; applied = o.applied }) g.1)

-- a write of the part `owners`
owners_written : (names : Naming) (metas : Layering nat_cmp Meta) (contents : Layering nat_cmp (List ℕ)) (acls : Layering nat_cmp (List Acl)) (children : Layering nat_cmp (Unit {0})) (owners : Layering nat_cmp ℕ) (sessions : Layering nat_cmp Session) (next : Layering nat_cmp ℕ) (applied : ℕ) (path : List ℕ) (number : ℕ) (value : Option ℕ) → get names.numbers path ≡ Some number → IsSome metas.staged → AreHeld names metas contents acls children owners sessions next → AreHeld names metas contents acls children (written owners number value) sessions next × (overlays names metas contents acls children (written owners number value) sessions next applied ≡ record { metas = layers_by_path names metas; contents = layers_by_path names contents; acls = layers_by_path names acls; children = layers_by_path names children; owners = written (layers_by_path names owners) path value; sessions = sessions; next = next; applied = applied })
owners_written names metas contents acls children owners sessions next applied path number value is there h = (
  record {
    naming = h.naming;
    metas_named = h.metas_named;
    contents_named = h.contents_named;
    acls_named = h.acls_named;
    children_named = h.children_named;
    owners_named = named_written names h.naming owners number value (path, is) h.owners_named;
    contents_alike = h.contents_alike;
    acls_alike = h.acls_alike;
    children_alike = h.children_alike;
    owners_alike = record { layers = h.owners_alike.layers; staged = sym there };
    sessions_alike = h.sessions_alike;
    next_alike = h.next_alike;
  },
  let e : layers_by_path names (written owners number value) ≡ written (layers_by_path names owners) path value = written_by_path names h.naming owners path number value is in
      λ i. record { metas = layers_by_path names metas; contents = layers_by_path names contents; acls = layers_by_path names acls; children = layers_by_path names children; owners = e i; sessions = sessions; next = next; applied = applied },
)

pub after_owners : (names names' : Naming) (metas : Layering nat_cmp Meta) (contents : Layering nat_cmp (List ℕ)) (acls : Layering nat_cmp (List Acl)) (children : Layering nat_cmp (Unit {0})) (owners owners' : Layering nat_cmp ℕ) (sessions : Layering nat_cmp Session) (next : Layering nat_cmp ℕ) (applied : ℕ) (path : List ℕ) (number : ℕ) (value : Option ℕ) → IsNaming names' → Grows names names' → get names'.numbers path ≡ Some number → owners' ≡ written owners number value → IsSome metas.staged → AreHeld names metas contents acls children owners sessions next → AreHeld names' metas contents acls children owners' sessions next × (overlays names' metas contents acls children owners' sessions next applied ≡ record { metas = layers_by_path names metas; contents = layers_by_path names contents; acls = layers_by_path names acls; children = layers_by_path names children; owners = written (layers_by_path names owners) path value; sessions = sessions; next = next; applied = applied })
after_owners names names' metas contents acls children owners owners' sessions next applied path number value h' grows is e there h =
    let g : AreHeld names' metas contents acls children owners sessions next × (overlays names' metas contents acls children owners sessions next applied ≡ overlays names metas contents acls children owners sessions next applied) = after_give names names' metas metas contents contents acls acls children children owners owners sessions sessions next next applied h' grows refl refl refl refl refl refl refl h in
    let w : AreHeld names' metas contents acls children (written owners number value) sessions next × (overlays names' metas contents acls children (written owners number value) sessions next applied ≡ record { metas = layers_by_path names' metas; contents = layers_by_path names' contents; acls = layers_by_path names' acls; children = layers_by_path names' children; owners = written (layers_by_path names' owners) path value; sessions = sessions; next = next; applied = applied }) = owners_written names' metas contents acls children owners sessions next applied path number value is there g.0 in
    let P : Layering nat_cmp ℕ → Type 0 = λ x. AreHeld names' metas contents acls children x sessions next × (overlays names' metas contents acls children x sessions next applied ≡ record { metas = layers_by_path names metas; contents = layers_by_path names contents; acls = layers_by_path names acls; children = layers_by_path names children; owners = written (layers_by_path names owners) path value; sessions = sessions; next = next; applied = applied }) in
    subst P (sym e) (w.0, w.1 ∙ ap (λ o. record { metas = o.metas; contents = o.contents; acls = o.acls; children = o.children; owners = written o.owners path value; sessions = o.sessions; next = o.next; applied = o.applied }) g.1)

-- marks where none are asked for
pub no_mark : CellsMark
no_mark = record { metas = 0; contents = 0; acls = 0; children = 0; owners = 0; sessions = 0; next = 0 }

-- each part with its first layer made on its base, and another index
abbrev pub committed_to : ℕ → Overlays → Overlays
committed_to applied o = record { metas = front_committed o.metas; contents = front_committed o.contents; acls = front_committed o.acls; children = front_committed o.children; owners = front_committed o.owners; sessions = front_committed o.sessions; next = front_committed o.next; applied = applied }

pub raised_is : (applied : ℕ) (more : Bool) (n : ℕ) → (IsTrue more ↔ (0 < n)) → min (applied + (if more then 1 else 0)) 18446744073709551615 ≡ applied_after applied n
raised_is applied true n h =
    let some : 0 < n = h.0 refl in
    let one : min n 1 ≡ 1 = omega arith in
    ap (λ k. min (applied + k) 18446744073709551615) (sym one)
raised_is applied false zero h = refl
raised_is applied false (suc n) h = absurd (no_number false (h.1 (omega arith)) refl)

empty_held : (names : Naming) → IsNaming names → AreHeld names empty_layering empty_layering empty_layering empty_layering empty_layering empty_layering empty_layering
empty_held names h = record {
  naming = h;
  metas_named = named_empty names h;
  contents_named = named_empty names h;
  acls_named = named_empty names h;
  children_named = named_empty names h;
  owners_named = named_empty names h;
  contents_alike = record { layers = refl; staged = refl };
  acls_alike = record { layers = refl; staged = refl };
  children_alike = record { layers = refl; staged = refl };
  owners_alike = record { layers = refl; staged = refl };
  sessions_alike = record { layers = refl; staged = refl };
  next_alike = record { layers = refl; staged = refl };
}

-- parts without layers and entries
pub blank_is : (names : Naming) (metas' : Layering nat_cmp Meta) (contents' : Layering nat_cmp (List ℕ)) (acls' : Layering nat_cmp (List Acl)) (children' : Layering nat_cmp (Unit {0})) (owners' : Layering nat_cmp ℕ) (sessions' : Layering nat_cmp Session) (next' : Layering nat_cmp ℕ) → metas' ≡ empty_layering → contents' ≡ empty_layering → acls' ≡ empty_layering → children' ≡ empty_layering → owners' ≡ empty_layering → sessions' ≡ empty_layering → next' ≡ empty_layering → IsNaming names → AreHeld names metas' contents' acls' children' owners' sessions' next' × (overlays names metas' contents' acls' children' owners' sessions' next' 0 ≡ blank_overlays)
blank_is names metas' contents' acls' children' owners' sessions' next' e_metas e_contents e_acls e_children e_owners e_sessions e_next h =
    let parts : AreHeld names metas' contents' acls' children' owners' sessions' next' × (overlays names metas' contents' acls' children' owners' sessions' next' 0 ≡ overlays names empty_layering empty_layering empty_layering empty_layering empty_layering empty_layering empty_layering 0) = same_parts names no_mark empty_layering metas' empty_layering contents' empty_layering acls' empty_layering children' empty_layering owners' empty_layering sessions' empty_layering next' 0 e_metas e_contents e_acls e_children e_owners e_sessions e_next (empty_held names h) in
    let none_metas : ◌≡◌ {A = Layering path_cmp Meta} (layers_by_path names empty_layering) empty_layering = λ i. record { base = by_path_empty names i; layers = []; staged = None } in
    let none_contents : ◌≡◌ {A = Layering path_cmp (List ℕ)} (layers_by_path names empty_layering) empty_layering = λ i. record { base = by_path_empty names i; layers = []; staged = None } in
    let none_acls : ◌≡◌ {A = Layering path_cmp (List Acl)} (layers_by_path names empty_layering) empty_layering = λ i. record { base = by_path_empty names i; layers = []; staged = None } in
    let none_children : ◌≡◌ {A = Layering path_cmp (Unit {0})} (layers_by_path names empty_layering) empty_layering = λ i. record { base = by_path_empty names i; layers = []; staged = None } in
    let none_owners : ◌≡◌ {A = Layering path_cmp ℕ} (layers_by_path names empty_layering) empty_layering = λ i. record { base = by_path_empty names i; layers = []; staged = None } in
    (parts.0, parts.1 ∙ (λ i. record { metas = none_metas i; contents = none_contents i; acls = none_acls i; children = none_children i; owners = none_owners i; sessions = empty_layering; next = empty_layering; applied = 0 }))
