-- A write of one part of a node.
use Rattle.std.specs.Prelude.{ℕ, List, IsSome}
use Rattle.kp_layers.specs.Layering.{written}
use Rattle.kp_cells.specs.declared.nodes.Nodes.{Nodes}
use Rattle.kp_cells.specs.declared.nodes.Part.{Part}
use Rattle.kp_cells.specs.declared.nodes.Part.TheVariants as part
use Rattle.kp_cells.specs.Overlays.{Overlays, with_meta, with_content, with_acl, with_owner}

-- a layer is open in each part
pub record AreOpen (n : Nodes) : Type 0 where
  pub metas : IsSome n.metas.staged
  pub contents : IsSome n.contents.staged
  pub acls : IsSome n.acls.staged
  pub children : IsSome n.children.staged
  pub owners : IsSome n.owners.staged

-- the parts with the write at a number
abbrev pub staged_part : Nodes → ℕ → Part → Nodes
staged_part n k (part.Meta value) = record n { metas = written n.metas k value }
staged_part n k (part.Content value) = record n { contents = written n.contents k value }
staged_part n k (part.Acl value) = record n { acls = written n.acls k value }
staged_part n k (part.Child value) = record n { children = written n.children k value }
staged_part n k (part.Owner value) = record n { owners = written n.owners k value }

-- the parts by paths with the write at a path
abbrev pub with_part : Overlays → List ℕ → Part → Overlays
with_part o path (part.Meta value) = with_meta o path value
with_part o path (part.Content value) = with_content o path value
with_part o path (part.Acl value) = with_acl o path value
with_part o path (part.Child value) = record o { children = written o.children path value }
with_part o path (part.Owner value) = with_owner o path value
