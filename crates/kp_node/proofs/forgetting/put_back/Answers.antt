use Rattle.kp_node.proofs.Forgotten.{removed_back, touched_back}
use Rattle.kp_node.proofs.forgetting.put_back.Goals as goal

pub returns-in-None : goal.returns-in-None
returns-in-None c = λ m h was before. removed_back c.args.expiry.now c.remove.new.self m c.args.session h c.args.before c.in-None.is c.remove.ensures was before

pub returns-in-Some : goal.returns-in-Some
returns-in-Some c = λ m h was before. touched_back c.args.expiry.now c.touch.new.self m c.args.session h c.in-Some.heard c.args.before c.touch.result c.in-Some.is c.touch.ensures.there c.touch.ensures.ok was before
