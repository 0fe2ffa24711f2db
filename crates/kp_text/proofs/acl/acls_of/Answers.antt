use Rattle.std.proofs.Common.{◌∙◌, sym, map}
use Rattle.kp_text.specs.AclWords.{acls_of}
use Rattle.kp_text.proofs.AclSteps.{acls_more, acls_stop, acls_end}
use Rattle.kp_text.proofs.acl.acls_of.Goals as goal

pub returns-in-None : goal.returns-in-None
returns-in-None c =
    acls_stop c.loop-word.acls (acls_of (map (λ x. x.now) c.args.words.now)) c.args.words.now c.loop-word.word-index _
    c.loop-word-test.true (sym c.in-None.is ∙ c.in_ok-acl_of.ensures) c.loop-word.invariant

pub loop-word-preserved : goal.loop-word-preserved
loop-word-preserved c =
    acls_more c.loop-word.acls c.push.new.self c.in-Some.acl (acls_of (map (λ x. x.now) c.args.words.now)) c.args.words.now c.loop-word.word-index _
    c.loop-word-test.true (sym c.in-Some.is ∙ c.in_ok-acl_of.ensures) c.in_ok-push-in-Some.ensures.ok c.loop-word.invariant

pub returns : goal.returns
returns c =
    acls_end c.loop-word.acls (acls_of (map (λ x. x.now) c.args.words.now)) c.args.words.now c.loop-word.word-index c.loop-word-test.false c.loop-word.invariant
