-- What was heard is taken back, and what ended is forgotten.
use Rattle.std.proofs.Common.{Bor, ◌≡◌, ℕ, Bool, true, false, cond, Option, Some, None, is_some, refl, ap, sym, ◌∙◌}
use Rattle.std.specs.Prelude.{nat_eq, Result, Ok, Err, IsOk, OnOk, option_copied}
use Rattle.std.specs.Ordering.{nat_cmp}
use Rattle.std.specs.Cmp.{nat_eq_equiv}
use Rattle.std.specs.FinMap as map
use Rattle.std.specs.FinMap.{FinMap}
use Rattle.kp_model.specs.declared.command.Cmd.{Cmd}
use Rattle.kp_model.specs.declared.command.Cmd.TheVariants as cmd
use Rattle.kp_model.specs.declared.entry.Body.TheVariants as body
use Rattle.kp_model.specs.declared.reply.Reply.{Reply}
use Rattle.kp_model.specs.declared.reply.Reply.TheVariants as reply
use Rattle.kp_model.specs.declared.session.Session.{Session}
use Rattle.kp_model.specs.State.{State}
use Rattle.kp_expiry.specs.declared.heard.Heard.{Heard}
use Rattle.kp_step.specs.Node.{heard_at}
use Rattle.kp_step.specs.Committing.{hear_in, heard_behind}
use Rattle.kp_node.specs.Forgetting.{ended_by, forgotten, opens, EndIsForgotten}
use Rattle.kp_node.proofs.Maps.{no, get-put, get-taken, same, same_number}

module _ {X : Type 0} (m : FinMap nat_cmp X) (k : ℕ) (a : X) where
  taken_at : (q : ℕ) (b : Bool) → nat_eq k q ≡ b → map.get m k ≡ None → cond b None (cond b (Some a) (map.get m q)) ≡ map.get m q
  taken_at q true e h = sym h ∙ ap (map.get m) (same_number k q e)
  taken_at q false e h = refl

  -- one that wasn't there goes again
  pub taken_back : map.get m k ≡ None → map.remove (map.insert m k a) k ≡ m
  taken_back h = same _ _ (λ q. get-taken (map.insert m k a) k q ∙ ap (cond (nat_eq k q) None) (get-put m k a q) ∙ taken_at q (nat_eq k q) refl h)

  put_at : (q : ℕ) (v : X) (b : Bool) → nat_eq k q ≡ b → map.get m k ≡ Some v → cond b (Some v) (cond b (Some a) (map.get m q)) ≡ map.get m q
  put_at q v true e h = sym h ∙ ap (map.get m) (same_number k q e)
  put_at q v false e h = refl

  -- one that was is as it was
  pub put_again : (v : X) → map.get m k ≡ Some v → map.insert (map.insert m k a) k v ≡ m
  put_again v h = same _ _ (λ q. get-put (map.insert m k a) k v q ∙ ap (cond (nat_eq k q) (Some v)) (get-put m k a q) ∙ put_at q v (nat_eq k q) refl h)

pub there_now : {X : Type 0} (old m : FinMap nat_cmp X) (k : ℕ) (a : X) → old ≡ map.insert m k a → map.contains_key old k ≡ true
there_now old m k a e = ap (λ z. map.contains_key z k) e ∙ ap is_some (get-put m k a k ∙ ap (λ b. cond b (Some a) (map.get m k)) (nat_eq_equiv.refl k))

-- what is lent is there exactly where it is
pub seen : {X : Type 0} (r : Option (Bor X)) (o : Option X) (b : Bool) → option_copied r ≡ o → b ≡ is_some r → is_some o ≡ b
seen None o b e f = sym (ap is_some e) ∙ sym f
seen (Some x) o b e f = sym (ap is_some e) ∙ sym f

-- a session of the state that was heard stands in its place, and of another nothing was heard
pub heard_in : (now id : ℕ) (o : Option Session) (m e : FinMap nat_cmp Heard) → is_some o ≡ true → e ≡ hear_in now id o m → (h : Heard) × (e ≡ map.insert m id h)
heard_in now id None m e there is = no false refl there
heard_in now id (Some x) m e there is = (heard_at now id x.timeout, is)

pub unheard_in : (now id : ℕ) (o : Option Session) (m e : FinMap nat_cmp Heard) → is_some o ≡ false → e ≡ hear_in now id o m → e ≡ m
unheard_in now id None m e none is = is
unheard_in now id (Some x) m e none is = no true none refl

-- ---- the end of a session

noop_forgotten : (now : ℕ) (r : Reply) (s : State) (m : FinMap nat_cmp Heard) → opens r ≡ false → heard_behind now body.Noop r s m ≡ m
noop_forgotten now reply.Stale s m h = refl
noop_forgotten now (reply.Err code) s m h = refl
noop_forgotten now reply.Done s m h = refl
noop_forgotten now (reply.Session id) s m h = no true h refl
noop_forgotten now (reply.Epoch epoch) s m h = refl
noop_forgotten now (reply.Path path) s m h = refl
noop_forgotten now (reply.PathStat path x) s m h = refl
noop_forgotten now (reply.Stat x) s m h = refl
noop_forgotten now (reply.Multi rs) s m h = refl
noop_forgotten now (reply.Failed codes) s m h = refl

expire_forgotten : (now session : ℕ) (r : Reply) (s : State) (m : FinMap nat_cmp Heard) → opens r ≡ false → heard_behind now (body.Expire session) r s m ≡ forgotten (ended_by (body.Expire session) r) m
expire_forgotten now session reply.Stale s m h = refl
expire_forgotten now session (reply.Err code) s m h = refl
expire_forgotten now session reply.Done s m h = refl
expire_forgotten now session (reply.Session id) s m h = no true h refl
expire_forgotten now session (reply.Epoch epoch) s m h = refl
expire_forgotten now session (reply.Path path) s m h = refl
expire_forgotten now session (reply.PathStat path x) s m h = refl
expire_forgotten now session (reply.Stat x) s m h = refl
expire_forgotten now session (reply.Multi rs) s m h = refl
expire_forgotten now session (reply.Failed codes) s m h = refl

done_forgotten : (now session epoch seq : ℕ) (c : Cmd) (s : State) (m : FinMap nat_cmp Heard) → heard_behind now (body.Write session epoch seq c) reply.Done s m ≡ forgotten (ended_by (body.Write session epoch seq c) reply.Done) m
done_forgotten now session epoch seq (cmd.Create path bytes acl flags with_stat) s m = refl
done_forgotten now session epoch seq (cmd.Delete path version) s m = refl
done_forgotten now session epoch seq (cmd.SetData path bytes version) s m = refl
done_forgotten now session epoch seq (cmd.SetAcl path acl version) s m = refl
done_forgotten now session epoch seq (cmd.Check path version) s m = refl
done_forgotten now session epoch seq (cmd.Auth scheme auth) s m = refl
done_forgotten now session epoch seq (cmd.Multi ops) s m = refl
done_forgotten now session epoch seq (cmd.Sync path) s m = refl
done_forgotten now session epoch seq cmd.CloseSession s m = refl

write_forgotten : (now session epoch seq : ℕ) (c : Cmd) (r : Reply) (s : State) (m : FinMap nat_cmp Heard) → opens r ≡ false → heard_behind now (body.Write session epoch seq c) r s m ≡ forgotten (ended_by (body.Write session epoch seq c) r) m
write_forgotten now session epoch seq c reply.Stale s m h = refl
write_forgotten now session epoch seq c (reply.Err code) s m h = refl
write_forgotten now session epoch seq c reply.Done s m h = done_forgotten now session epoch seq c s m
write_forgotten now session epoch seq c (reply.Session id) s m h = no true h refl
write_forgotten now session epoch seq c (reply.Epoch e) s m h = refl
write_forgotten now session epoch seq c (reply.Path path) s m h = refl
write_forgotten now session epoch seq c (reply.PathStat path x) s m h = refl
write_forgotten now session epoch seq c (reply.Stat x) s m h = refl
write_forgotten now session epoch seq c (reply.Multi rs) s m h = refl
write_forgotten now session epoch seq c (reply.Failed codes) s m h = refl

pub end_law : EndIsForgotten
end_law now body.Noop r s m a h = noop_forgotten now r s m h
end_law now (body.OpenSession timeout passwd o) r s m a h = no true a refl
end_law now (body.Attach session passwd o) r s m a h = no true a refl
end_law now (body.Expire session) r s m a h = expire_forgotten now session r s m h
end_law now (body.Write session epoch seq c) r s m a h = write_forgotten now session epoch seq c r s m h

-- ---- taken back

ok_then : {A E : Type 0} (r : Result A E) (P : Type 0) → IsOk r → OnOk r P → P
ok_then (Ok a) P h p = p
ok_then (Err e) P h p = no false refl h

pub removed_back : (old new m : FinMap nat_cmp Heard) (k : ℕ) (a : Heard) (before : Option Heard) → before ≡ None → new ≡ map.remove old k → old ≡ map.insert m k a → before ≡ map.get m k → new ≡ m
removed_back old new m k a before none is was same_before = is ∙ ap (λ z. map.remove z k) was ∙ taken_back m k a (sym same_before ∙ none)

pub touched_back : {A E : Type 0} (old new m : FinMap nat_cmp Heard) (k : ℕ) (a h : Heard) (before : Option Heard) (r : Result A E) → before ≡ Some h → (map.contains_key old k ≡ true → IsOk r) → OnOk r (new ≡ map.insert old k h) → old ≡ map.insert m k a → before ≡ map.get m k → new ≡ m
touched_back old new m k a h before r some there is was same_before =
    ok_then r (new ≡ map.insert old k h) (there (there_now old m k a was)) is ∙ ap (λ z. map.insert z k h) was ∙ put_again m k a h (sym same_before ∙ some)
