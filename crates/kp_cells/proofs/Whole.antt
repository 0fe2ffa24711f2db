-- The parts of a state, put together, are the state.
use Rattle.std.proofs.Common.{◌≡◌, ℕ, Option, Some, None, List, [], refl, sym, ap, ◌∙◌}
use Rattle.std.specs.Prelude.{unwrap_or}
use Rattle.std.specs.Option.{option_map}
use Rattle.std.specs.FinMap as map
use Rattle.kp_model.specs.declared.node.Acl.{Acl}
use Rattle.kp_model.specs.declared.node.Node.{Node}
use Rattle.kp_model.specs.declared.node.Meta.{Meta}
use Rattle.kp_model.specs.State.{State, Nodes, path_cmp, stat, meta_at, bytes_at}
use Rattle.kp_model.specs.Poured.{node_of}
use Rattle.kp_cells.specs.Mapped.{mapped}
use Rattle.kp_cells.specs.Parts.{Parts, parts_of, whole}
use Rattle.kp_cells.proofs.Maps.{get-mapped}
use Rattle.kp_cells.proofs.Paths.{path_total, path_same}

-- what is shown of the nodes, part by part
pub get-metas : (s : State) (p : List ℕ) → map.get (parts_of s).metas p ≡ meta_at s.nodes p
unfolding parts_of meta_at
get-metas s p = get-mapped path_total path_same (stat s.nodes) s.nodes p

pub get-contents : (s : State) (p : List ℕ) → map.get (parts_of s).contents p ≡ bytes_at s.nodes p
unfolding parts_of bytes_at
get-contents s p = get-mapped path_total path_same (λ _ n. n.bytes) s.nodes p

pub get-sessions : (s : State) (id : ℕ) → map.get (parts_of s).sessions id ≡ map.get s.sessions id
unfolding parts_of
get-sessions s id = refl

again : (nodes : Nodes) (q : List ℕ) (o : Option Node) → option_map (λ (m : Meta). node_of (unwrap_or (option_map (λ (n : Node). n.bytes) o) []) (unwrap_or (option_map (λ (n : Node). n.acl) o) []) m) (option_map (stat nodes q) o) ≡ o
unfolding stat
again nodes q None = refl
again nodes q (Some n) = refl

nodes_again : (nodes : Nodes) → let metas : map.FinMap path_cmp Meta = mapped (stat nodes) nodes in
    let contents : map.FinMap path_cmp (List ℕ) = mapped (λ _ (n : Node). n.bytes) nodes in
    let acls : map.FinMap path_cmp (List Acl) = mapped (λ _ (n : Node). n.acl) nodes in
    mapped (λ q m. node_of (unwrap_or (map.get contents q) []) (unwrap_or (map.get acls q) []) m) metas ≡ nodes
nodes_again nodes =
    let metas : map.FinMap path_cmp Meta = mapped (stat nodes) nodes in
    let contents : map.FinMap path_cmp (List ℕ) = mapped (λ _ (n : Node). n.bytes) nodes in
    let acls : map.FinMap path_cmp (List Acl) = mapped (λ _ (n : Node). n.acl) nodes in
    map.same_map path_total path_same _ _ (λ q.
    get-mapped path_total path_same (λ q m. node_of (unwrap_or (map.get contents q) []) (unwrap_or (map.get acls q) []) m) metas q
    ∙ ap (option_map (λ (m : Meta). node_of (unwrap_or (map.get contents q) []) (unwrap_or (map.get acls q) []) m)) (get-mapped path_total path_same (stat nodes) nodes q)
    ∙ ap (λ (o : Option (List ℕ)). option_map (λ (m : Meta). node_of (unwrap_or o []) (unwrap_or (map.get acls q) []) m) (option_map (stat nodes q) (map.get nodes q))) (get-mapped path_total path_same (λ _ (n : Node). n.bytes) nodes q)
    ∙ ap (λ (o : Option (List Acl)). option_map (λ (m : Meta). node_of (unwrap_or (option_map (λ (n : Node). n.bytes) (map.get nodes q)) []) (unwrap_or o []) m) (option_map (stat nodes q) (map.get nodes q))) (get-mapped path_total path_same (λ _ (n : Node). n.acl) nodes q)
    ∙ again nodes q (map.get nodes q))

pub whole_parts : (s : State) → whole s.applied (parts_of s) ≡ s
unfolding parts_of whole
whole_parts s = ap (λ (nodes : Nodes). record { nodes = nodes; sessions = s.sessions; next = s.next; applied = s.applied }) (nodes_again s.nodes)

-- parts that are those of a state, put together at its index
pub whole_is : (s : State) (applied : ℕ) (p : Parts) → p ≡ parts_of s → applied ≡ s.applied → whole applied p ≡ s
whole_is s applied p e i = ap (λ (q : Parts). whole applied q) e ∙ ap (λ (n : ℕ). whole n (parts_of s)) i ∙ whole_parts s

-- parts that are those of a state fit together
pub fit_together : (s : State) (p : Parts) → p ≡ parts_of s → p ≡ parts_of (whole 0 p)
unfolding parts_of whole
fit_together s p e = e ∙ ap parts_of (sym (whole_parts s)) ∙ ap (λ (q : Parts). parts_of (whole s.applied q)) (sym e)
