use Rattle.std.proofs.Common.{refl, sym, ap, subst, ◌∙◌}
use Rattle.std.specs.FinMap as map
use Rattle.kp_conn.specs.Connection.{put}
use Rattle.kp_node.specs.ClientFirst.{with_unput}
use Rattle.kp_node.specs.Early.{IsFirstAt}
use Rattle.kp_node.specs.Parts.{Parts}
use Rattle.kp_node.proofs.FirstFed.{back_again, still_early}
use Rattle.kp_node.proofs.node.Node.compact_behind.Goals as goal

pub unput_word-requires : goal.unput_word-requires
unput_word-requires c = subst (λ (z : Parts). IsFirstAt (map.get z.seating.seats c.args.conn)) (sym (c.in-Err.ensures.err ∙ c.in_ok-put_word.ensures.ok))
    (still_early (put c.args.text.now) (λ d. refl) c.args.self.now.seating c.args.conn c.requires.phase)

pub returns-in-Err-clause-err : goal.returns-in-Err-clause-err
returns-in-Err-clause-err c = c.unput_word.ensures ∙ ap (λ z. with_unput z c.args.conn) (c.in-Err.ensures.err ∙ c.in_ok-put_word.ensures.ok) ∙ back_again c.args.text.now c.args.self.now c.args.conn c.requires.phase
