use Rattle.std.proofs.Common.{◌++◌, ◌∷◌, [], sym, subst}
use Rattle.std.specs.Prelude.{OnOk}
use Rattle.kp_draft.specs.Behind.{IsBehind, Tells}
use Rattle.kp_act.specs.Effects.{IsFit}
use Rattle.kp_act.specs.Several.{effected_nodes_by}
use Rattle.kp_draft.proofs.Drafted.{on_ok_both}
use Rattle.kp_draft.proofs.Telling.{on_ok_then, behind_nothing, behind_made, behind_removed, behind_set, behind_relisted}
use Rattle.kp_draft.proofs.behind.keep.Goals as goal

pub returns-in-Nothing-clause-behind : goal.returns-in-Nothing-clause-behind
returns-in-Nothing-clause-behind g c =
    subst (λ x. IsBehind (g.V.View.state c.args.view.now).nodes (c.args.draft.now.effects ++ x ∷ []) c.args.draft.now.kept.entries c.args.lists.now.entries) (sym c.in-Nothing.is)
    (behind_nothing (g.V.View.state c.args.view.now).nodes c.args.draft.now.effects c.args.draft.now.kept.entries c.args.draft.now.kept.entries c.args.lists.now.entries c.args.lists.now.entries c.requires.behind)

pub returns-in-Make-clause-behind : goal.returns-in-Make-clause-behind
returns-in-Make-clause-behind g c =
    subst (λ x. OnOk c.keep_make.result (IsBehind (g.V.View.state c.args.view.now).nodes (c.args.draft.now.effects ++ x ∷ []) c.keep_make.new.draft.kept.entries c.keep_make.new.lists.entries)) (sym c.in-Make.is) (
    on_ok_both c.keep_make.result c.keep_make.ensures.kept c.keep_make.ensures.listed (λ notes listed. behind_made (g.V.View.state c.args.view.now).nodes c.args.draft.now.effects c.args.draft.now.kept.entries c.keep_make.new.draft.kept.entries c.args.lists.now.entries c.keep_make.new.lists.entries c.requires.behind _ _ _ _ _ (subst IsFit c.in-Make.is c.requires.fit) (subst (Tells (effected_nodes_by (g.V.View.state c.args.view.now).nodes c.args.draft.now.effects)) c.in-Make.is c.requires.tells) notes listed))

pub returns-in-Remove-clause-behind : goal.returns-in-Remove-clause-behind
returns-in-Remove-clause-behind g c =
    subst (λ x. OnOk c.keep_remove.result (IsBehind (g.V.View.state c.args.view.now).nodes (c.args.draft.now.effects ++ x ∷ []) c.keep_remove.new.draft.kept.entries c.keep_remove.new.lists.entries)) (sym c.in-Remove.is) (
    on_ok_both c.keep_remove.result c.keep_remove.ensures.kept c.keep_remove.ensures.listed (λ notes listed. behind_removed (g.V.View.state c.args.view.now).nodes c.args.draft.now.effects c.args.draft.now.kept.entries c.keep_remove.new.draft.kept.entries c.args.lists.now.entries c.keep_remove.new.lists.entries c.requires.behind _ _ _ (subst IsFit c.in-Remove.is c.requires.fit) (subst (Tells (effected_nodes_by (g.V.View.state c.args.view.now).nodes c.args.draft.now.effects)) c.in-Remove.is c.requires.tells) notes listed))

pub returns-in-Set-clause-behind : goal.returns-in-Set-clause-behind
returns-in-Set-clause-behind g c =
    subst (λ x. OnOk c.keep_one.result (IsBehind (g.V.View.state c.args.view.now).nodes (c.args.draft.now.effects ++ x ∷ []) c.keep_one.new.draft.kept.entries c.args.lists.now.entries)) (sym c.in-Set.is) (
    on_ok_then c.keep_one.result c.keep_one.ensures.kept (λ notes. behind_set (g.V.View.state c.args.view.now).nodes c.args.draft.now.effects c.args.draft.now.kept.entries c.keep_one.new.draft.kept.entries c.args.lists.now.entries c.args.lists.now.entries c.requires.behind _ _ _ (subst (Tells (effected_nodes_by (g.V.View.state c.args.view.now).nodes c.args.draft.now.effects)) c.in-Set.is c.requires.tells) notes))

pub returns-in-SetAcl-clause-behind : goal.returns-in-SetAcl-clause-behind
returns-in-SetAcl-clause-behind g c =
    subst (λ x. OnOk c.keep_acl.result (IsBehind (g.V.View.state c.args.view.now).nodes (c.args.draft.now.effects ++ x ∷ []) c.keep_acl.new.draft.kept.entries c.keep_acl.new.lists.entries)) (sym c.in-SetAcl.is) (
    on_ok_both c.keep_acl.result c.keep_acl.ensures.kept c.keep_acl.ensures.listed (λ notes listed. behind_relisted (g.V.View.state c.args.view.now).nodes c.args.draft.now.effects c.args.draft.now.kept.entries c.keep_acl.new.draft.kept.entries c.args.lists.now.entries c.keep_acl.new.lists.entries c.requires.behind _ _ _ (subst (Tells (effected_nodes_by (g.V.View.state c.args.view.now).nodes c.args.draft.now.effects)) c.in-SetAcl.is c.requires.tells) notes listed))
