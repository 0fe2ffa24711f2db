-- What was found of an entry is what it does, also of a write that acts on one node.
use Rattle.std.proofs.Common.{◌≡◌, ℕ, ◌+◌, Bool, true, false, not, cond, ◌&&◌, List, [], Option, Some, None, refl, ap, sym, subst, ◌∙◌}
use Rattle.std.specs.Prelude.{◌==◌, if◌then◌else◌, IsTrue}
use Rattle.std.specs.Cmp.{nat_cmp_total}
use Rattle.std.specs.FinMap.{nat_cmp-IsAntisymmetric}
use Rattle.std.specs.Ordering.{eq_by_cmp, nat_cmp}
use Rattle.std.proofs.lemmas.List.Elements.{All-nil, All-cons}
use Rattle.kp_cells.proofs.Maps.{no}
use Rattle.std.specs.FinMap as map
use Rattle.kp_model.specs.LogEntry.{LogEntry}
use Rattle.kp_model.specs.declared.command.Cmd.{Cmd}
use Rattle.kp_model.specs.declared.command.Cmd.TheVariants as cmd
use Rattle.kp_model.specs.declared.reply.Reply.TheVariants as reply
use Rattle.kp_model.specs.declared.session.Session.{Session}
use Rattle.kp_model.specs.Errors.{session_expired}
use Rattle.kp_model.specs.State.{State, Sessions}
use Rattle.kp_model.specs.Touched.{Touched, touched, touched_at, touched_in}
use Rattle.kp_model.specs.declared.entry.Body.TheVariants as body
use Rattle.kp_model.specs.Step.{replies, act, expired, closed, written_by, with_seq, take_body, apply}
use Rattle.kp_cells.specs.Parts.{parts_of}
use Rattle.kp_act.specs.declared.plan.Act.{Act}
use Rattle.kp_act.specs.declared.plan.Plan.{Plan}
use Rattle.kp_act.specs.declared.plan.Effect.{Effect}
use Rattle.kp_act.specs.Effects.{IsFit, FitsData, DoesOn, TellsOwner, effected, path_of, is_on_node}
use Rattle.kp_act.specs.Plans.{IsPlan, answer_plan}
use Rattle.kp_prep.specs.Entries.{acting_plan}
use Rattle.kp_act.specs.Several.{effected_by, effected_nodes_by, TellOwners}
use Rattle.kp_act.specs.Among.{IsEffectAmong}
use Rattle.kp_draft.proofs.Telling.{fit_on}
use Rattle.kp_act.proofs.Plans.{the_one, answered_is}
use Rattle.kp_prep.proofs.Within.{among_named}

-- a session that is dead doesn't end
pub expired_dead : (k : Touched) (s : State) (applied i id : ℕ) → None ≡ map.get s.sessions id → IsPlan k s (expired (map.get s.sessions id) (record s { applied = applied }) i id) (answer_plan reply.Stale)
expired_dead k s applied i id none = subst (λ o. IsPlan k s (expired o (record s { applied = applied }) i id) (answer_plan reply.Stale)) none (answered_is k s applied reply.Stale)

-- a session that lives ends
pub expired_live : (k : Touched) (s : State) (applied i id : ℕ) (x : Session) (p : Plan) → Some x ≡ map.get s.sessions id → IsPlan k s (closed (record s { applied = applied }) i id) p → IsPlan k s (expired (map.get s.sessions id) (record s { applied = applied }) i id) p
expired_live k s applied i id x p some h = subst (λ o. IsPlan k s (expired o (record s { applied = applied }) i id) p) some h

-- a write of a session that is dead
pub written_dead : (k : Touched) (s : State) (i t id epoch seq : ℕ) (c : Cmd) → None ≡ map.get s.sessions id → IsPlan k s (written_by (map.get s.sessions id) (record s { applied = i }) i t id epoch seq c) (answer_plan (reply.Err session_expired))
written_dead k s i t id epoch seq c none = subst (λ o. IsPlan k s (written_by o (record s { applied = i }) i t id epoch seq c) (answer_plan (reply.Err session_expired))) none (answered_is k s i (reply.Err session_expired))

-- another epoch or number
pub written_stale : (k : Touched) (s : State) (i t id epoch seq : ℕ) (c : Cmd) (x : Session) → (epoch == x.epoch && seq == x.seq + 1) ≡ false → IsPlan k s (written_by (Some x) (record s { applied = i }) i t id epoch seq c) (answer_plan reply.Stale)
written_stale k s i t id epoch seq c x due =
    subst (λ b. IsPlan k s (if not b then replies (record s { applied = i }) reply.Stale else act (record s { applied = i; sessions = map.insert s.sessions id (with_seq seq x) }) id x.ids i t c) (answer_plan reply.Stale)) (sym due) (answered_is k s i reply.Stale)

-- the next write of the epoch
pub written_due : (k : Touched) (s : State) (i t id epoch seq : ℕ) (c : Cmd) (x : Session) (p : Plan) → (epoch == x.epoch && seq == x.seq + 1) ≡ true → IsPlan k s (act (record s { applied = i; sessions = map.insert s.sessions id (with_seq seq x) }) id x.ids i t c) p → IsPlan k s (written_by (Some x) (record s { applied = i }) i t id epoch seq c) p
written_due k s i t id epoch seq c x p due h =
    subst (λ b. IsPlan k s (if not b then replies (record s { applied = i }) reply.Stale else act (record s { applied = i; sessions = map.insert s.sessions id (with_seq seq x) }) id x.ids i t c) p) (sym due) h

parts_moved : (s : State) (i id : ℕ) (x : Session) (e : Effect) → effected (record (parts_of s) { sessions = map.insert (parts_of s).sessions id x; next = (parts_of s).next }) e ≡ effected (parts_of (record s { applied = i; sessions = map.insert s.sessions id x })) e
unfolding parts_of
parts_moved s i id x e = refl

-- the owner is told of the nodes, whatever the sessions are
tells_moved : (s : State) (i : ℕ) (sessions : Sessions) (e : Effect) → TellsOwner (parts_of (record s { applied = i; sessions = sessions })) e → TellsOwner (parts_of s) e
unfolding parts_of
tells_moved s i sessions e h = h

-- an act of a session that has the number then
pub acted_is : (s : State) (ids : List (List ℕ)) (i t id : ℕ) (x : Session) (c : Cmd) (a : Act) → DoesOn (path_of s.nodes c) s.nodes (λ z. act z id ids i t c) a → IsPlan (touched_in s id c) s (act (record s { applied = i; sessions = map.insert s.sessions id x }) id ids i t c) (acting_plan id x a)
unfolding effected_by effected_nodes_by TellOwners
acted_is s ids i t id x c a does =
    let sessions : Sessions = map.insert s.sessions id x in
    let h = does (record s { applied = i; sessions = sessions }) in
    record {
      reply = h.reply;
      events = h.events;
      parts = parts_moved s i id x a.effect ∙ h.parts;
      nodes = h.nodes;
      owners = (tells_moved s i sessions a.effect h.owner, tt);
      fit = All-cons IsFit a.effect [] (fit_on (path_of s.nodes c) a.effect h.on) (All-nil IsFit);
      fits = All-cons FitsData a.effect [] h.fits (All-nil FitsData);
      paths = All-cons (IsEffectAmong (touched_in s id c).paths) a.effect [] (among_named s.nodes id c a.effect h.on) (All-nil (IsEffectAmong (touched_in s id c).paths));
      sessions = the_one id;
    }

-- a session that was set and goes is gone
pub gone_again : (sessions : Sessions) (id : ℕ) (x : Session) → map.remove (map.insert sessions id x) id ≡ map.remove sessions id
gone_again sessions id x = map.same_map nat_cmp_total nat_cmp-IsAntisymmetric _ _ (λ n.
    map.get-remove nat_cmp_total (map.insert sessions id x) id n
    ∙ ap (cond (eq_by_cmp nat_cmp n id) None) (map.get-insert nat_cmp_total sessions id x n)
    ∙ once (eq_by_cmp nat_cmp n id) (map.get sessions n)
    ∙ sym (map.get-remove nat_cmp_total sessions id n)) where
      once : (b : Bool) (o : Option Session) → cond b None (cond b (Some x) o) ≡ cond b None o
      once true o = refl
      once false o = refl

-- the entry is taken at the index behind the applied one
pub planned_entry : (s : State) (i : ℕ) (d e : LogEntry) (p : Plan) → s.applied + 1 ≡ i → d ≡ e → IsPlan (touched_at s i d.time d.body) s (take_body (record s { applied = i }) i d.time d.body) p → IsPlan (touched s e) s (apply s e) p
unfolding apply touched
planned_entry s i d e p next same h =
    subst (λ z. IsPlan (touched s z) s (apply s z) p) same (subst (λ n. IsPlan (touched_at s n d.time d.body) s (take_body (record s { applied = n }) n d.time d.body) p) (sym next) h)

-- what a command but a multi touches
pub touched_named : (s : State) (i t id epoch seq : ℕ) (c : Cmd) → IsTrue (is_on_node c) → touched_at s i t (body.Write id epoch seq c) ≡ touched_in s id c
touched_named s i t id epoch seq (cmd.Create path bytes acl flags stat) h = refl
touched_named s i t id epoch seq (cmd.Delete path version) h = refl
touched_named s i t id epoch seq (cmd.SetData path bytes version) h = refl
touched_named s i t id epoch seq (cmd.SetAcl path acl version) h = refl
touched_named s i t id epoch seq (cmd.Check path version) h = refl
touched_named s i t id epoch seq (cmd.Sync path) h = refl
touched_named s i t id epoch seq (cmd.Auth scheme auth) h = refl
touched_named s i t id epoch seq (cmd.Multi ops) h = no false refl h
touched_named s i t id epoch seq cmd.CloseSession h = refl
