-- The latest map after each change of the layers.
use Rattle.std.proofs.Common.{◌≡◌, List, [], ◌∷◌, ◌++◌, Option, None, refl, ap, sym}
use Rattle.std.specs.declared.cmp.Ordering.{Ordering}
use Rattle.std.specs.FinMap.{FinMap}
use Rattle.std.specs.Prelude.{drop, unwrap_or}
use Rattle.kp_layers.specs.Overlay.{put, overlay}
use Rattle.kp_layers.specs.Layering.{Layering, latest_of, staged_of, overlay_all, first_layer, begun, written, sealed, front_committed}

module _ {K V : Type 0} {R : K → K → Ordering} where
  overlay_push : (m : FinMap R V) (ws : List (K × Option V)) (key : K) (value : Option V) → overlay m (ws ++ (key, value) ∷ []) ≡ put (overlay m ws) key value
  overlay_push m [] key value = refl
  overlay_push m (w ∷ ws) key value = overlay_push (put m w.0 w.1) ws key value

  overlay_more : (m : FinMap R V) (layers : List (List (K × Option V))) (ws : List (K × Option V)) → overlay_all m (layers ++ ws ∷ []) ≡ overlay (overlay_all m layers) ws
  overlay_more m [] ws = refl
  overlay_more m (l ∷ layers) ws = overlay_more (overlay m l) layers ws

  -- a write more: the latest map has the value at the key
  pub latest_written : (l : Layering R V) (key : K) (value : Option V) → latest_of (written l key value) ≡ put (latest_of l) key value
  latest_written l key value = overlay_push (overlay_all l.base l.layers) (staged_of l) key value

  -- an open layer without writes changes nothing
  pub latest_begun : (l : Layering R V) → l.staged ≡ None → latest_of (begun l) ≡ latest_of l
  latest_begun l none = ap (λ o. overlay (overlay_all l.base l.layers) (unwrap_or o [])) (sym none)

  -- the latest map is the same when the open layer is sealed
  pub latest_sealed : (l : Layering R V) → latest_of (sealed l) ≡ latest_of l
  latest_sealed l = overlay_more l.base l.layers (staged_of l)

  first_made : (m : FinMap R V) (layers : List (List (K × Option V))) (ws : List (K × Option V)) → overlay (overlay_all (overlay m (first_layer layers)) (drop 1 layers)) ws ≡ overlay (overlay_all m layers) ws
  first_made m [] ws = refl
  first_made m (l ∷ layers) ws = refl

  -- the latest map is the same when the first layer is made on the base
  pub latest_front_committed : (l : Layering R V) → latest_of (front_committed l) ≡ latest_of l
  latest_front_committed l = first_made l.base l.layers (staged_of l)
