-- What is written for a packet is its spelling.
use Rattle.std.proofs.Common.{◌≡◌, ℕ, ◌^◌, ◌<◌, ℤ, pos, negsuc, Bool, false, cond, List, ◌++◌, length, Some, Result, Ok, Err, refl, sym, ap, ◌∙◌, append_assoc}
use Rattle.std.specs.Prelude.{IfOk}
use Rattle.kp_jute.specs.Form.{Form, Wrote}
use Rattle.kp_jute.specs.Jute.{ints, longs, buffer, gap}
use Rattle.kp_model.specs.declared.reply.Event.{Event}
use Rattle.kp_wire.specs.declared.reply.Shape.{Shape}
use Rattle.kp_wire.specs.declared.reply.WireReply.{WireReply}
use Rattle.kp_wire.specs.declared.reply.WireReply.TheVariants as reply
use Rattle.kp_wire.specs.declared.packet.Packet.TheVariants as packet
use Rattle.kp_wire.specs.Common.{Sends}
use Rattle.kp_wire.specs.Events.{events}
use Rattle.kp_wire.specs.Replies.{replies, shape_in, HasShape}
use Rattle.kp_wire.specs.ServerPackets.{fired, asked, headers, answers, is_event}
use Rattle.kp_wire.proofs.ReplyWrites.{of_shape}

-- the packet of what was written behind the gap for the length
pub sent : {A E : Type 0} (f : Form A) (v : A) (old new : List ℕ) (r : Result (List ℕ) E) → old ≡ gap → Wrote f v old new → ((body : List ℕ) → new ≡ gap ++ body → IfOk r (λ b. (length body < 2 ^ 31) × (b ≡ buffer (Some body)))) → IfOk r (λ b. Sends f v b)
sent f v old new (Ok b) start w made =
    let m = made (f.spell v) (w.added ∙ ap (λ (u : List ℕ). u ++ f.spell v) start) in
    ((m.0, w.fits), m.1)
sent f v old new (Err e) start w made = tt

-- the same of each of some forms
pub sent_any : {A E K : Type 0} (f : K → Form A) (v : A) (old new : List ℕ) (r : Result (List ℕ) E) → old ≡ gap → ((k : K) → Wrote (f k) v old new) → ((body : List ℕ) → new ≡ gap ++ body → IfOk r (λ b. (length body < 2 ^ 31) × (b ≡ buffer (Some body)))) → IfOk r (λ b. (k : K) → Sends (f k) v b)
sent_any {A} {E} {K} f v old new (Ok b) start w made = λ k. sent {A = A} {E = E} (f k) v old new (Ok b) start (w k) made
sent_any f v old new (Err e) start w made = tt

pub sent_where : {A E K : Type 0} (holds : K → Type 0) (f : K → Form A) (v : A) (old new : List ℕ) (r : Result (List ℕ) E) → old ≡ gap → ((k : K) → holds k → Wrote (f k) v old new) → ((body : List ℕ) → new ≡ gap ++ body → IfOk r (λ b. (length body < 2 ^ 31) × (b ≡ buffer (Some body)))) → IfOk r (λ b. (k : K) → holds k → Sends (f k) v b)
sent_where {A} {E} {K} holds f v old new (Ok b) start w made = λ k h. sent {A = A} {E = E} (f k) v old new (Ok b) start (w k h) made
sent_where holds f v old new (Err e) start w made = tt

asked_by : (xid zxid : ℤ) → is_event xid zxid ≡ false → Some (cond (is_event xid zxid) fired (asked xid zxid)) ≡ Some (asked xid zxid)
asked_by xid zxid is = ap (λ (b : Bool). Some (cond b fired (asked xid zxid))) is

pub wrote_asked : (s : Shape) (xid zxid : ℤ) (r : WireReply) (a b c : List ℕ) → is_event xid zxid ≡ false → Wrote headers (xid, zxid) a b → HasShape s r → Wrote (replies (shape_in r)) r b c → Wrote (answers s) (packet.Reply xid zxid r) a c
wrote_asked s xid zxid r a b c is header shape body =
    let w = of_shape s r b c shape body in
    record {
      fits = ((header.fits, asked_by xid zxid is), w.fits);
      added = w.added ∙ ap (λ (u : List ℕ). u ++ (replies s).spell r) header.added ∙ append_assoc a (headers.spell (xid, zxid)) ((replies s).spell r);
    }

pub wrote_fired : (s : Shape) (e : Event) (a b c d f : List ℕ) → Wrote ints (negsuc 0) a b → Wrote longs (negsuc 0) b c → Wrote ints (pos 0) c d → Wrote events e d f → Wrote (answers s) (packet.Event e) a f
wrote_fired s e a b c d f xid zxid code body =
    let x = ints.spell (negsuc 0) in
    let z = longs.spell (negsuc 0) in
    let n = ints.spell (pos 0) in
    let text = events.spell e in
    let third : f ≡ c ++ (n ++ text) = body.added ∙ ap (λ (u : List ℕ). u ++ text) code.added ∙ append_assoc c n text in
    let second : f ≡ b ++ (z ++ (n ++ text)) = third ∙ ap (λ (u : List ℕ). u ++ (n ++ text)) zxid.added ∙ append_assoc b z (n ++ text) in
    let first : f ≡ a ++ (x ++ (z ++ (n ++ text))) = second ∙ ap (λ (u : List ℕ). u ++ (z ++ (n ++ text))) xid.added ∙ append_assoc a x (z ++ (n ++ text)) in
    record {
      fits = (((xid.fits, zxid.fits), refl), ((code.fits, refl), body.fits));
      added = first ∙ ap (λ (u : List ℕ). a ++ u) (sym (append_assoc x z (n ++ text)));
    }

-- ---- a packet was begun

-- what was written behind the gap
pub begun : {A : Type 0} (f : Form A) (v : A) (old new : List ℕ) → old ≡ gap → Wrote f v old new → (body : List ℕ) × (new ≡ gap ++ body)
begun f v old new start w = (f.spell v, w.added ∙ ap (λ x. x ++ f.spell v) start)

-- each reply has the shape that it has by itself
pub its_shape : (r : WireReply) → HasShape (shape_in r) r
its_shape (reply.Err z) = tt
its_shape reply.Empty = refl
its_shape (reply.Path path) = refl
its_shape (reply.PathStat path stat) = refl
its_shape (reply.Stat stat) = refl
its_shape (reply.Data bytes stat) = refl
its_shape (reply.Acl acl stat) = refl
its_shape (reply.Names names) = refl
its_shape (reply.NamesStat names stat) = refl
its_shape (reply.Multi xs) = refl
its_shape (reply.Failed zs) = refl
