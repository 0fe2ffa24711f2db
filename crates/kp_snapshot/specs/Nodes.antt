-- What was read of a node.
use Rattle.kp_model.specs.declared.node.Meta.{Meta}
use Rattle.kp_model.specs.Poured.{node_of}
use Rattle.kp_snapshot.specs.declared.nodes.Body.{Body}
use Rattle.kp_snapshot.specs.declared.nodes.Found.{Found}
use Rattle.kp_snapshot.specs.Rules.{Placed}
use Rattle.kp_snapshot.specs.Images.{Figures, NodeFields}

-- the numbers of a node, in their order
abbrev pub figures_of : Meta → Figures
figures_of m = ((m.czxid, (m.mzxid, m.pzxid)), ((m.ctime, m.mtime), ((m.version, (m.cversion, m.aversion)), (m.owner, m.created))))

-- what stands behind the path
abbrev pub fields_of : Body → NodeFields
fields_of b = (b.content.now, (b.acl, figures_of b.meta))

abbrev pub placed_of : Found → Placed
placed_of f = (f.path.now, node_of f.body.content.now f.body.acl f.body.meta)
