-- The parts under the layers, through what is done to the layers.
use Rattle.std.proofs.Common.{◌≡◌, ℕ, zero, suc, ◌+◌, ◌-◌, ◌≤◌, List, [], ◌∷◌, take, drop, length, Option, refl, ap, sym, ◌∙◌, arith, length-append, length-drop, length-take-le, take-take, take_all}
use Rattle.std.proofs.lemmas.List.{take-append-le}
use Rattle.std.specs.declared.cmp.Ordering.{Ordering}
use Rattle.std.specs.FinMap.{FinMap}
use Rattle.std.specs.Prelude.{unwrap_or}
use Rattle.kp_layers.specs.Overlay.{overlay}
use Rattle.kp_layers.specs.Layering.{Layering, latest_of, staged_of, overlay_all, first_layer, begun, sealed, front_committed, back_dropped}
use Rattle.kp_layers.proofs.Latest.{latest_sealed}
use Rattle.kp_cells.specs.Overlays.{Overlays, under, parts_under, latest_parts, committed_parts, next_in, all_begun, all_sealed, all_committed, all_dropped}
use Rattle.kp_storage.specs.Kept.{HasLayers, IsLayered}

module _ {K V : Type 0} {R : K → K → Ordering} where
  under_first : (m : FinMap R V) (layers : List (List (K × Option V))) (k : ℕ) → overlay_all (overlay m (first_layer layers)) (take k (drop 1 layers)) ≡ overlay_all m (take (suc k) layers)
  under_first m [] zero = refl
  under_first m [] (suc k) = refl
  under_first m (ws ∷ layers) k = refl

  -- the first layer is made on the base
  under_front : (l : Layering R V) (k : ℕ) → under k (front_committed l) ≡ under (suc k) l
  under_front l k = under_first l.base l.layers k

  front_layers : (n : ℕ) (l : Layering R V) → HasLayers (suc n) l → HasLayers n (front_committed l)
  front_layers n l h = record {
    sealed = length-drop 1 l.layers ∙ omega (arith, h.sealed);
    closed = h.closed;
  }

  -- the last layer is taken away
  under_back : (l : Layering R V) (n k : ℕ) → HasLayers n l → k ≤ n - 1 → under k (back_dropped l) ≡ under k l
  under_back l n k h le = ap (overlay_all l.base) (take-take k (length l.layers - 1) l.layers (omega (arith, h.sealed)))

  back_layers : (n : ℕ) (l : Layering R V) → HasLayers n l → HasLayers (n - 1) (back_dropped l)
  back_layers n l h = record {
    sealed = length-take-le (length l.layers - 1) l.layers (omega arith) ∙ omega (arith, h.sealed);
    closed = h.closed;
  }

  -- all layers are sealed
  under_all : (l : Layering R V) (n : ℕ) → HasLayers n l → overlay_all l.base l.layers ≡ under n l
  under_all l n h = sym (ap (overlay_all l.base) (take_all n l.layers (omega (arith, h.sealed))))

  latest_closed : (l : Layering R V) (n : ℕ) → HasLayers n l → latest_of l ≡ under n l
  latest_closed l n h = ap (λ o. overlay (overlay_all l.base l.layers) (unwrap_or o [])) h.closed ∙ under_all l n h

  -- a layer is sealed that was opened on others
  sealed_length : (l m : Layering R V) (n : ℕ) → HasLayers n l → begun m ≡ begun l → length m.layers ≡ n
  sealed_length l m n h e = ap (λ x. length x.layers) e ∙ h.sealed

  sealed_layers : (l m : Layering R V) (n : ℕ) → HasLayers n l → begun m ≡ begun l → HasLayers (n + 1) (sealed m)
  sealed_layers l m n h e = record {
    sealed = length-append m.layers (staged_of m ∷ []) ∙ omega (arith, sealed_length l m n h e);
    closed = refl;
  }

  under_sealed : (l m : Layering R V) (n k : ℕ) → HasLayers n l → begun m ≡ begun l → k ≤ n → under k (sealed m) ≡ under k l
  under_sealed l m n k h e le =
      ap (overlay_all m.base) (take-append-le k m.layers (staged_of m ∷ []) (omega (arith, sealed_length l m n h e)))
      ∙ ap (λ x. overlay_all x.base (take k x.layers)) e

  under_last : (l m : Layering R V) (n : ℕ) → HasLayers n l → begun m ≡ begun l → under (n + 1) (sealed m) ≡ latest_of m
  under_last l m n h e = sym (under_all (sealed m) (n + 1) (sealed_layers l m n h e)) ∙ latest_sealed m

-- parts that are alike under layers
same_parts : (k j : ℕ) (o p : Overlays) → under k o.metas ≡ under j p.metas → under k o.contents ≡ under j p.contents → under k o.acls ≡ under j p.acls → under k o.children ≡ under j p.children
    → under k o.owners ≡ under j p.owners → under k o.sessions ≡ under j p.sessions → under k o.next ≡ under j p.next → parts_under k o ≡ parts_under j p
same_parts k j o p a b c d e f g = λ i. record { metas = a i; contents = b i; acls = c i; children = d i; owners = e i; sessions = f i; next = next_in (g i) }

pub parts_front : (o : Overlays) (k : ℕ) → parts_under k (all_committed o) ≡ parts_under (suc k) o
parts_front o k = same_parts k (suc k) (all_committed o) o (under_front o.metas k) (under_front o.contents k) (under_front o.acls k) (under_front o.children k) (under_front o.owners k) (under_front o.sessions k) (under_front o.next k)

pub parts_back : (o : Overlays) (n k : ℕ) → IsLayered n o → k ≤ n - 1 → parts_under k (all_dropped o) ≡ parts_under k o
parts_back o n k h le = same_parts k k (all_dropped o) o (under_back o.metas n k h.metas le) (under_back o.contents n k h.contents le) (under_back o.acls n k h.acls le) (under_back o.children n k h.children le)
    (under_back o.owners n k h.owners le) (under_back o.sessions n k h.sessions le) (under_back o.next n k h.next le)

pub front_layered : (o : Overlays) (n : ℕ) → IsLayered (suc n) o → IsLayered n (all_committed o)
front_layered o n h = record {
  metas = front_layers n o.metas h.metas;
  contents = front_layers n o.contents h.contents;
  acls = front_layers n o.acls h.acls;
  children = front_layers n o.children h.children;
  owners = front_layers n o.owners h.owners;
  sessions = front_layers n o.sessions h.sessions;
  next = front_layers n o.next h.next;
}

pub back_layered : (o : Overlays) (n : ℕ) → IsLayered n o → IsLayered (n - 1) (all_dropped o)
back_layered o n h = record {
  metas = back_layers n o.metas h.metas;
  contents = back_layers n o.contents h.contents;
  acls = back_layers n o.acls h.acls;
  children = back_layers n o.children h.children;
  owners = back_layers n o.owners h.owners;
  sessions = back_layers n o.sessions h.sessions;
  next = back_layers n o.next h.next;
}

-- under no layer there are the committed parts
pub parts_none : (o : Overlays) → committed_parts o ≡ parts_under 0 o
parts_none o = refl

-- under all layers there are the latest parts
pub parts_latest : (o : Overlays) (n : ℕ) → IsLayered n o → latest_parts o ≡ parts_under n o
parts_latest o n h = λ i. record {
  metas = latest_closed o.metas n h.metas i;
  contents = latest_closed o.contents n h.contents i;
  acls = latest_closed o.acls n h.acls i;
  children = latest_closed o.children n h.children i;
  owners = latest_closed o.owners n h.owners i;
  sessions = latest_closed o.sessions n h.sessions i;
  next = next_in (latest_closed o.next n h.next i);
}

-- an open layer without writes changes nothing
pub parts_begun : (o : Overlays) (n : ℕ) → IsLayered n o → latest_parts (all_begun o) ≡ parts_under n o
parts_begun o n h = λ i. record {
  metas = under_all o.metas n h.metas i;
  contents = under_all o.contents n h.contents i;
  acls = under_all o.acls n h.acls i;
  children = under_all o.children n h.children i;
  owners = under_all o.owners n h.owners i;
  sessions = under_all o.sessions n h.sessions i;
  next = next_in (under_all o.next n h.next i);
}

-- a layer is sealed in p that was opened on o
module _ (o p : Overlays) (n : ℕ) (h : IsLayered n o) (on : all_begun p ≡ all_begun o) where
  pub sealed_layered : IsLayered (n + 1) (all_sealed p)
  sealed_layered = record {
    metas = sealed_layers o.metas p.metas n h.metas (ap (λ x. x.metas) on);
    contents = sealed_layers o.contents p.contents n h.contents (ap (λ x. x.contents) on);
    acls = sealed_layers o.acls p.acls n h.acls (ap (λ x. x.acls) on);
    children = sealed_layers o.children p.children n h.children (ap (λ x. x.children) on);
    owners = sealed_layers o.owners p.owners n h.owners (ap (λ x. x.owners) on);
    sessions = sealed_layers o.sessions p.sessions n h.sessions (ap (λ x. x.sessions) on);
    next = sealed_layers o.next p.next n h.next (ap (λ x. x.next) on);
  }

  pub parts_sealed : (k : ℕ) → k ≤ n → parts_under k (all_sealed p) ≡ parts_under k o
  parts_sealed k le = same_parts k k (all_sealed p) o
      (under_sealed o.metas p.metas n k h.metas (ap (λ x. x.metas) on) le)
      (under_sealed o.contents p.contents n k h.contents (ap (λ x. x.contents) on) le)
      (under_sealed o.acls p.acls n k h.acls (ap (λ x. x.acls) on) le)
      (under_sealed o.children p.children n k h.children (ap (λ x. x.children) on) le)
      (under_sealed o.owners p.owners n k h.owners (ap (λ x. x.owners) on) le)
      (under_sealed o.sessions p.sessions n k h.sessions (ap (λ x. x.sessions) on) le)
      (under_sealed o.next p.next n k h.next (ap (λ x. x.next) on) le)

  pub parts_last : parts_under (n + 1) (all_sealed p) ≡ latest_parts p
  parts_last = λ i. record {
    metas = under_last o.metas p.metas n h.metas (ap (λ x. x.metas) on) i;
    contents = under_last o.contents p.contents n h.contents (ap (λ x. x.contents) on) i;
    acls = under_last o.acls p.acls n h.acls (ap (λ x. x.acls) on) i;
    children = under_last o.children p.children n h.children (ap (λ x. x.children) on) i;
    owners = under_last o.owners p.owners n h.owners (ap (λ x. x.owners) on) i;
    sessions = under_last o.sessions p.sessions n h.sessions (ap (λ x. x.sessions) on) i;
    next = next_in (under_last o.next p.next n h.next (ap (λ x. x.next) on) i);
  }
