use Rattle.std.proofs.Common.{sym, ◌∙◌, None}
use Rattle.std.specs.Str.{bytes_eq}
use Rattle.std.proofs.lemmas.Map.Text.{hash_map_updates_text}
use Rattle.kp_cells.specs.Kin.{filled_in, set_at}
use Rattle.kp_cells.proofs.Sets.{kids_same, filled_so, no_kids, cond_or}
use Rattle.kp_cells.proofs.kin.remove_set.Goals as goal

pub returns-clause-kids : goal.returns-clause-kids
returns-clause-kids c =
    kids_same _ _ c.args.parent.now None
    (λ p. hash_map_updates_text c.args.parent.now c.args.kin.now c.remove.new.self None c.remove.ensures.updates p)
    (λ n. sym (no_kids (set_at c.args.kin.now.entries c.args.parent.now) n c.requires))

pub returns-clause-filled : goal.returns-clause-filled
returns-clause-filled c p =
    filled_so c.args.kin.now.entries c.remove.new.self.entries c.args.parent.now None
    (λ q. hash_map_updates_text c.args.parent.now c.args.kin.now c.remove.new.self None c.remove.ensures.updates q)
    p
    ∙ cond_or (bytes_eq c.args.parent.now p) (filled_in (set_at c.args.kin.now.entries p))
