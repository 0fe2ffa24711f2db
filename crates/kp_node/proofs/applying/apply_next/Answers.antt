use Rattle.std.proofs.Common.{refl, ap, subst, ◌∙◌, ◌≤◌, ◌^◌}
use Rattle.kp_model.specs.LogEntry.{LogEntry}
use Rattle.kp_node.specs.Applied.{waits_for}
use Rattle.kp_node.proofs.Applies.{ran_of, ran_first, ran_applied, prepared_indexed, prepared_answer, prepared_fired, prepared_finish}
use Rattle.kp_node.proofs.applying.apply_next.Goals as goal

pub tell_entry-requires-clause-indexed : goal.tell_entry-requires-clause-indexed
tell_entry-requires-clause-indexed c = prepared_indexed c.args.ground _ c.args.seats.now _ _ _ _ _ c.in_ok-prospect.field-0 c.prepare.new.seats c.prepare.new.expiry c.requires.served c.in_ok-prospect.ensures.ok

pub tell_entry-requires-clause-answer : goal.tell_entry-requires-clause-answer
tell_entry-requires-clause-answer c = prepared_answer c.args.ground _ c.args.seats.now _ _ _ _ _ c.in_ok-prospect.field-0 c.prepare.new.seats c.prepare.new.expiry c.requires.served c.in_ok-prospect.ensures.ok

pub tell_entry-requires-clause-fired : goal.tell_entry-requires-clause-fired
tell_entry-requires-clause-fired c = prepared_fired c.args.ground _ c.args.seats.now _ _ _ _ _ c.in_ok-prospect.field-0 c.prepare.new.seats c.prepare.new.expiry c.in_ok-prospect.ensures.ok _ c.deref.ensures.value

pub finish_entry-handed-requires : goal.finish_entry-handed-requires
finish_entry-handed-requires c = prepared_finish c.args.ground _ c.args.seats.now _ _ _ _ _ c.in_ok-prospect.field-0 c.prepare.new.seats c.prepare.new.expiry c.requires.served c.in_ok-prospect.ensures.ok _ c.deref.ensures.value _ _ c.tell_entry.ensures.informed c.tell_entry.ensures.beside

pub returns-clause-ok : goal.returns-clause-ok
returns-clause-ok c = λ e es is.
    ran_applied _ _ _ _ _ _ _ _ _ _ _ _ _ _ _ _ _ _ _ _ _ _ c.requires.rest c.requires.kept c.requires.served c.in-Some.ensures c.in-Some-upcoming.ensures c.commit.ensures.state (subst (λ n. n ≤ 2 ^ 62) c.last-last.ensures.index c.last-last.ensures.limit)
    (ran_of c.args.ground c.args.storage.now.state c.args.raft.now c.in-Some.entry.now c.in-Some-upcoming.next.now c.args.seats.now c.prepare.new.seats c.tell_entry.new.seats c.finish_entry-handed.new.seats c.args.watches.now c.tell_entry.new.watches c.finish_entry-handed.new.watches c.args.expiry.now c.prepare.new.expiry c.tell_entry.new.expiry c.in_ok-prospect.field-0
    c.commit.new.self c.finish_entry-handed.new.raft c.finish_entry-handed.new.storage c.finish_entry-handed.result
    c.in_ok-prospect.ensures.ok _ c.deref.ensures.value c.tell_entry.ensures.informed c.tell_entry.ensures.indexed c.tell_entry.ensures.beside c.tell_entry.ensures.watches c.tell_entry.ensures.heard _ (c.waits_for-waits.ensures ∙ ap (λ (z : LogEntry). waits_for z.body c.in_ok-prospect.field-0.prospect.server) c.entry.view_is) c.finish_entry-handed.ensures)
    e es is c.follow-ready.new.seats c.follow-ready.new.watches _ refl refl c.follow-ready.ensures.served c.follow-ready.ensures.beside c.follow-ready.ensures.watches c.follow-ready.ensures.ready c.follow-ready.ensures.lost

pub follow-ready-requires-clause-indexed : goal.follow-ready-requires-clause-indexed
follow-ready-requires-clause-indexed c =
    (ran_first _ _ _ _ _ _ _ _ _ _ _ _ _ _ _ _ _ _ _ _ _ _ c.requires.rest c.requires.kept c.requires.served c.in-Some.ensures c.in-Some-upcoming.ensures c.commit.ensures.state (subst (λ n. n ≤ 2 ^ 62) c.last-last.ensures.index c.last-last.ensures.limit)
    (ran_of c.args.ground c.args.storage.now.state c.args.raft.now c.in-Some.entry.now c.in-Some-upcoming.next.now c.args.seats.now c.prepare.new.seats c.tell_entry.new.seats c.finish_entry-handed.new.seats c.args.watches.now c.tell_entry.new.watches c.finish_entry-handed.new.watches c.args.expiry.now c.prepare.new.expiry c.tell_entry.new.expiry c.in_ok-prospect.field-0
    c.commit.new.self c.finish_entry-handed.new.raft c.finish_entry-handed.new.storage c.finish_entry-handed.result
    c.in_ok-prospect.ensures.ok _ c.deref.ensures.value c.tell_entry.ensures.informed c.tell_entry.ensures.indexed c.tell_entry.ensures.beside c.tell_entry.ensures.watches c.tell_entry.ensures.heard _ (c.waits_for-waits.ensures ∙ ap (λ (z : LogEntry). waits_for z.body c.in_ok-prospect.field-0.prospect.server) c.entry.view_is) c.finish_entry-handed.ensures)).1.table.indexed

pub follow-ready-requires-clause-served : goal.follow-ready-requires-clause-served
follow-ready-requires-clause-served c =
    (ran_first _ _ _ _ _ _ _ _ _ _ _ _ _ _ _ _ _ _ _ _ _ _ c.requires.rest c.requires.kept c.requires.served c.in-Some.ensures c.in-Some-upcoming.ensures c.commit.ensures.state (subst (λ n. n ≤ 2 ^ 62) c.last-last.ensures.index c.last-last.ensures.limit)
    (ran_of c.args.ground c.args.storage.now.state c.args.raft.now c.in-Some.entry.now c.in-Some-upcoming.next.now c.args.seats.now c.prepare.new.seats c.tell_entry.new.seats c.finish_entry-handed.new.seats c.args.watches.now c.tell_entry.new.watches c.finish_entry-handed.new.watches c.args.expiry.now c.prepare.new.expiry c.tell_entry.new.expiry c.in_ok-prospect.field-0
    c.commit.new.self c.finish_entry-handed.new.raft c.finish_entry-handed.new.storage c.finish_entry-handed.result
    c.in_ok-prospect.ensures.ok _ c.deref.ensures.value c.tell_entry.ensures.informed c.tell_entry.ensures.indexed c.tell_entry.ensures.beside c.tell_entry.ensures.watches c.tell_entry.ensures.heard _ (c.waits_for-waits.ensures ∙ ap (λ (z : LogEntry). waits_for z.body c.in_ok-prospect.field-0.prospect.server) c.entry.view_is) c.finish_entry-handed.ensures)).1.table.served

pub follow-ready-requires-clause-kept : goal.follow-ready-requires-clause-kept
follow-ready-requires-clause-kept c =
    (ran_first _ _ _ _ _ _ _ _ _ _ _ _ _ _ _ _ _ _ _ _ _ _ c.requires.rest c.requires.kept c.requires.served c.in-Some.ensures c.in-Some-upcoming.ensures c.commit.ensures.state (subst (λ n. n ≤ 2 ^ 62) c.last-last.ensures.index c.last-last.ensures.limit)
    (ran_of c.args.ground c.args.storage.now.state c.args.raft.now c.in-Some.entry.now c.in-Some-upcoming.next.now c.args.seats.now c.prepare.new.seats c.tell_entry.new.seats c.finish_entry-handed.new.seats c.args.watches.now c.tell_entry.new.watches c.finish_entry-handed.new.watches c.args.expiry.now c.prepare.new.expiry c.tell_entry.new.expiry c.in_ok-prospect.field-0
    c.commit.new.self c.finish_entry-handed.new.raft c.finish_entry-handed.new.storage c.finish_entry-handed.result
    c.in_ok-prospect.ensures.ok _ c.deref.ensures.value c.tell_entry.ensures.informed c.tell_entry.ensures.indexed c.tell_entry.ensures.beside c.tell_entry.ensures.watches c.tell_entry.ensures.heard _ (c.waits_for-waits.ensures ∙ ap (λ (z : LogEntry). waits_for z.body c.in_ok-prospect.field-0.prospect.server) c.entry.view_is) c.finish_entry-handed.ensures)).1.table.kept
