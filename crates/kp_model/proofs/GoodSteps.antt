-- Entries keep a good state good, and a sound state sound.
use Rattle.std.proofs.Common.{◌≡◌, ℕ, ◌+◌, ◌≤◌, ◌<◌, ◌==◌, not, ◌&&◌, List, [], ◌∷◌, length, Option, Some, None, IsTrue, IsSome, refl, sym, subst, true≢false, arith, eqb-true}
use Rattle.std.specs.Prelude.{unwrap_or}
use Rattle.std.specs.List.{list_all}
use Rattle.std.specs.Cmp.{nat_cmp_total}
use Rattle.std.specs.FinMap as map
use Rattle.std.specs.FinMap.{nat_cmp-IsAntisymmetric}
use Rattle.kp_model.specs.LogEntry.{LogEntry}
use Rattle.kp_model.specs.declared.session.Session.{Session}
use Rattle.kp_model.specs.declared.entry.Body.{Body}
use Rattle.kp_model.specs.declared.entry.Body.TheVariants as body
use Rattle.kp_model.specs.declared.command.Op.{Op}
use Rattle.kp_model.specs.declared.command.Op.TheVariants as op
use Rattle.kp_model.specs.declared.command.Cmd.{Cmd}
use Rattle.kp_model.specs.declared.command.Cmd.TheVariants as cmd
use Rattle.kp_model.specs.Grammar.{is_number, is_timeout, is_origin, is_body, is_length, fits_op, fits_cmd, is_fitting, has_numbers, is_entry}
use Rattle.kp_model.specs.Path.{is_well_formed}
use Rattle.kp_model.specs.Fixed.{fixed}
use Rattle.kp_model.specs.State.{State}
use Rattle.kp_model.specs.Step.{shown_id, act_on, act, with_seq, written_by, take_body, apply}
use Rattle.kp_model.specs.Store.{after}
use Rattle.kp_model.specs.Good.{HasDistinctHolders, IsGood, IsSound}
use Rattle.kp_model.proofs.Maps.{some_inserted}
use Rattle.kp_model.proofs.Applied.{applied-apply}
use Rattle.kp_model.proofs.GoodParts.{raised_good, session_set_good}
use Rattle.kp_model.proofs.GoodLists.{both, fixed_within}
use Rattle.kp_model.proofs.GoodNodes.{unless_good, set_acl_good, act_on_good}
use Rattle.kp_model.proofs.GoodClosing.{closed_good}
use Rattle.kp_model.proofs.GoodMulti.{multi_good}
use Rattle.kp_model.proofs.GoodSessions.{chosen_good, opened_good, attached_good, expired_good, shows_good, with_seq_good}
use Rattle.kp_model.proofs.Holders.{act_on_sessions, apply_holders}

-- ---- commands

-- a session that is there has a number that was given out
lives_given : (s : State) (session : ℕ) (o : Option Session) → map.get s.sessions session ≡ o → IsSome o → IsGood s → 1 ≤ session
lives_given s session None found lives good = absurd (true≢false (sym lives))
lives_given s session (Some x) found lives good = (good.sessions session x found).given

-- a command of a live session keeps a good state good
act_good : (s : State) (session : ℕ) (ids : List (List ℕ)) (t : ℕ) (c : Cmd) → IsTrue (is_number t) → IsTrue (fits_cmd c) → IsSome (map.get s.sessions session)
    → IsGood s → IsGood (act s session ids s.applied t c).state
unfolding act
act_good s session ids t (cmd.Create path bytes acl flags with_stat) time fits lives good = act_on_good s session ids t (op.Create path bytes acl flags with_stat) time fits lives good
act_good s session ids t (cmd.Delete path version) time fits lives good = act_on_good s session ids t (op.Delete path version) time fits lives good
act_good s session ids t (cmd.SetData path bytes version) time fits lives good = act_on_good s session ids t (op.SetData path bytes version) time fits lives good
act_good s session ids t (cmd.SetAcl path acl version) time fits lives good = unless_good _ s _ good (λ _. set_acl_good s path (unwrap_or (fixed ids acl) []) (fixed_within ids acl) good)
act_good s session ids t (cmd.Check path version) time fits lives good = act_on_good s session ids t (op.Check path version) time fits lives good
act_good s session ids t (cmd.Auth scheme auth) time fits lives good = shows_good s session (shown_id scheme auth) good
act_good s session ids t (cmd.Multi ops) time fits lives good =
    multi_good s s session ids s.applied t [] [] ops refl time (both (is_length (length ops)) (list_all fits_op ops) fits).1 lives good good
act_good s session ids t (cmd.Sync path) time fits lives good = chosen_good (is_well_formed path) _ _ good (λ _. good)
act_good s session ids t cmd.CloseSession time fits lives good = closed_good s session (lives_given s session _ refl lives good) good

written_good : (o : Option Session) (s : State) (t session epoch seq : ℕ) (c : Cmd) → map.get s.sessions session ≡ o
    → IsTrue (is_number t) → IsTrue (is_number seq) → IsTrue (fits_cmd c)
    → IsGood s → IsGood (written_by o s s.applied t session epoch seq c).state
written_good None s t session epoch seq c found time number fits good = good
written_good (Some x) s t session epoch seq c found time number fits good =
    chosen_good (not (epoch == x.epoch && seq == x.seq + 1)) _ _ good
    (λ _. act_good (record s { sessions = map.insert s.sessions session (with_seq seq x) }) session x.ids t c time fits
    (some_inserted nat_cmp_total nat_cmp-IsAntisymmetric s.sessions session (with_seq seq x) session (subst IsSome (sym found) refl))
    (session_set_good s s.next session (with_seq seq x) good.next (omega arith) (with_seq_good s.next session seq x number (good.sessions session x found)) good))

-- ---- bodies and entries

taken_good : (s : State) (t : ℕ) (b : Body) → IsTrue (is_number t) → IsTrue (is_body b) → IsTrue (is_fitting b) → IsGood s → IsGood (take_body s s.applied t b).state
unfolding take_body
taken_good s t body.Noop time numbers fits good = good
taken_good s t (body.OpenSession timeout passwd origin) time numbers fits good =
    let parts = both (is_timeout timeout) (is_origin origin) numbers in
    opened_good s timeout passwd origin parts.0 parts.1 (eqb-true (length passwd) 16 fits) good
taken_good s t (body.Attach session passwd origin) time numbers fits good =
    attached_good _ s session passwd origin refl (both (is_number session) (is_origin origin) numbers).1 good
taken_good s t (body.Expire session) time numbers fits good = expired_good _ s session refl good
taken_good s t (body.Write session epoch seq c) time numbers fits good =
    written_good _ s t session epoch seq c refl time (both (is_number epoch) (is_number seq) (both (is_number session) _ numbers).1).1 fits good

pub apply_good : (s : State) (e : LogEntry) → IsTrue (is_entry e) → s.applied < 4611686018427387904 → IsGood s → IsGood (apply s e).state
unfolding apply
apply_good s e entry room good =
    let parts = both (has_numbers e.term e.time e.body) (is_fitting e.body) entry in
    let times = both (is_number e.time) (is_body e.body) (both (is_number e.term) _ parts.0).1 in
    taken_good (record s { applied = s.applied + 1 }) e.time e.body times.0 times.1 parts.1 (raised_good s room good)

pub apply_sound : (s : State) (e : LogEntry) → IsTrue (is_entry e) → s.applied < 4611686018427387904 → IsSound s → IsSound (apply s e).state
apply_sound s e entry room sound = record {
  good = apply_good s e entry room sound.good;
  holders = apply_holders s e sound.holders;
}

-- ---- operations

pub act_on_sound : (s : State) (session : ℕ) (ids : List (List ℕ)) (t : ℕ) (o : Op) → IsTrue (is_number t) → IsTrue (fits_op o) → IsSome (map.get s.sessions session)
    → IsSound s → IsSound (act_on s session ids s.applied t o).state
act_on_sound s session ids t o time fits lives sound = record {
  good = act_on_good s session ids t o time fits lives sound.good;
  holders = subst HasDistinctHolders (sym (act_on_sessions s session ids s.applied t o)) sound.holders;
}

-- ---- replay

pub after_sound : (s : State) (es : List LogEntry) → IsTrue (list_all is_entry es) → s.applied + length es ≤ 4611686018427387904 → IsSound s → IsSound (after s es)
unfolding after
after_sound s [] entries room sound = sound
after_sound s (e ∷ es) entries room sound =
    let parts = both (is_entry e) (list_all is_entry es) entries in
    after_sound (apply s e).state es parts.1 (omega (arith, room, applied-apply s e)) (apply_sound s e parts.0 (omega (arith, room)) sound)
