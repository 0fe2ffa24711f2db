-- The first bytes of a connection.
use Rattle.std.proofs.Common.{◌≡◌, ◌≤◌, ℕ, Bool, true, false, List, [], ◌++◌, Option, Some, None, is_some, refl, ap, sym, subst, ◌∙◌, append-nil}
use Rattle.std.specs.Prelude.{IsTrue, unwrap_or, if◌then◌else◌}
use Rattle.std.specs.List.{list_all}
use Rattle.kp_model.specs.declared.entry.Body.{Body}
use Rattle.kp_model.specs.Grammar.{is_body}
use Rattle.kp_model.specs.Limits.{last_number}
use Rattle.kp_model.specs.Store.{Store, last as last_of}
use Rattle.kp_raft.specs.Members.{Member}
use Rattle.kp_watch.specs.declared.watch.Watch.{Watch}
use Rattle.kp_watch.specs.Watching.{dropped}
use Rattle.kp_wire.specs.declared.connect.ConnectRequest.{ConnectRequest}
use Rattle.kp_conn.specs.declared.fed.Fed.{Fed}
use Rattle.kp_conn.specs.declared.fed.FedEnd.{FedEnd}
use Rattle.kp_conn.specs.declared.fed.FedEnd.TheVariants as ends
use Rattle.kp_conn.specs.declared.first.First.{First}
use Rattle.kp_conn.specs.declared.first.First.TheVariants as firsts
use Rattle.kp_conn.specs.declared.phase.Phase.{Phase}
use Rattle.kp_conn.specs.declared.phase.Phase.TheVariants as phase
use Rattle.kp_conn.specs.Connection.{Connection, begun_again, is_lost}
use Rattle.kp_conn.specs.Fed.{fed, fed_as, fed_first, first, with_piece, nothing}
use Rattle.kp_step.specs.Choices.{Luck}
use Rattle.kp_step.specs.Handing as step
use Rattle.kp_step.specs.Handing.{Served, served_so, served_as, serves, handed, is_led, is_refused, refusal, opening, origin, connects, first_served}
use Rattle.kp_node.specs.declared.joining.Ground.{Ground}
use Rattle.kp_node.specs.declared.serving.Handed.{Handed}
use Rattle.kp_node.specs.FirstBytes.{Sends, opened_by, Makes, reads_first, is_word, word_in, IsFirst, IsConnecting, TakesWaiting}
use Rattle.kp_node.specs.Joining.{IsHanded, IsBehind, ground_in, desk_of}
use Rattle.kp_node.specs.Proposing.{AtDesk, entries_of}
use Rattle.kp_node.specs.Serving.{HandsOver}
use Rattle.kp_node.specs.TakingBytes.{taken, Takes}
use Rattle.kp_node.proofs.Handed.{at_desk_from, at_desk_to}
use Rattle.kp_node.proofs.HandedOver.{proposes_none}
use Rattle.kp_node.proofs.Maps.{no}

-- ---- a body is sent

module _ (g : Ground) (m : Member) (x : Store) (room : last_of x ≤ last_number) where
  begun : IsBehind x g x [] []
  begun = record { store = ap (λ us. record x { unapplied = us }) (sym (append-nil x.unapplied)); latest = refl; room = refl; bodies = refl; within = room; numbers = refl }

  pub sends_none : (o : Handed) → o ≡ record { records = []; mail = [] } → Sends g m x m x o (desk_of x [] [])
  sends_none o none = subst (λ z. Sends g m x m x z (desk_of x [] [])) (sym none) (record { over = record { raft = proposes_none m g.now [] refl; mail = refl }; at = begun })

  module _ (b : Body) (y : Store) (bs₀ fs₀ bs fs : List Body) (no_bodies : bs₀ ≡ []) (no_forwards : fs₀ ≡ []) (h : IsHanded g x bs₀ fs₀ b y bs fs) where
    from : IsBehind x g y bs fs × (desk_of y bs fs ≡ handed (ground_in g x.state) (desk_of x [] []) b)
    from = subst (λ (z : List Body × List Body). IsHanded g x z.0 z.1 b y bs fs) (λ i. (no_bodies i, no_forwards i)) h x x.state begun

    pub within : IsTrue (list_all is_body bs)
    within = from.0.numbers

    pub sends_one : (n : Member) (o : Handed) → HandsOver g m bs fs o n → Sends g m x n y o (opened_by g x b)
    sends_one n o over = subst (Sends g m x n y o) from.1 (record { over = over; at = from.0 })

    module _ (last : ℕ) (same : last ≡ last_of x) where
      pub back_from : y.state.applied ≤ last
      back_from = subst (λ i. y.state.applied ≤ i) (sym same) (at_desk_from x g.term g.now y bs (desk_of y bs fs) from.0)

      pub back_to : last ≤ last_of y
      back_to = subst (λ i. i ≤ last_of y) (sym same) (at_desk_to x g.term g.now y bs (desk_of y bs fs) from.0)

      pub is_back : (z : Store) → ((w : Store) (es : List _) → y ≡ record w { unapplied = w.unapplied ++ es } → last ≡ last_of w → z ≡ w) → z ≡ x
      is_back z back = back x (entries_of g.term g.now bs) from.0.store same

-- ---- what was fed

-- the word
pub word_is : (e : FedEnd) (w : List ℕ) → word_in e ≡ Some w → e ≡ ends.Word w
word_is ends.Ok w h = no false refl (ap is_some h)
word_is (ends.Bad at) w h = no false refl (ap is_some h)
word_is (ends.Word v) w h = ap (λ o. ends.Word (unwrap_or o [])) h

pub no_word : (e : FedEnd) → word_in e ≡ None → is_word e ≡ false
no_word ends.Ok h = refl
no_word (ends.Bad at) h = refl
no_word (ends.Word v) h = no false refl (sym (ap is_some h))

module _ (c : Connection) (bytes : List ℕ) (fresh : c.phase ≡ phase.Fresh) where
  back_by : (f : First) → begun_again (c.kept, c.place) (fed_first (with_piece c bytes) f).0 ≡ record c { phase = phase.Fresh }
  back_by firsts.Part = refl
  back_by firsts.Wrong = refl
  back_by (firsts.Word w) = refl
  back_by (firsts.Connect q n) = refl

  open_by : (f : First) → is_lost (fed_first (with_piece c bytes) f).0.phase ≡ false
  open_by firsts.Part = ap is_lost fresh
  open_by firsts.Wrong = ap is_lost fresh
  open_by (firsts.Word w) = ap is_lost fresh
  open_by (firsts.Connect q n) = refl

  fed_fresh : fed c bytes ≡ fed_first (with_piece c bytes) (first (c.kept ++ bytes))
  unfolding fed
  fed_fresh = ap (λ p. fed_as p c bytes) fresh

  module _ (mid : Connection) (f : Fed) (e : fed c bytes ≡ (mid, f)) where
    mid_is : mid ≡ (fed_first (with_piece c bytes) (first (c.kept ++ bytes))).0
    mid_is = ap (λ (z : Connection × Fed). z.0) (sym e ∙ fed_fresh)

    pub begins_again : (b : List ℕ × ℕ) (d c' : Connection) → b ≡ (c.kept, c.place) → d ≡ mid → c' ≡ begun_again b d → c' ≡ c
    begins_again b d c' kept same is =
        is ∙ (λ i. begun_again (kept i) ((same ∙ mid_is) i)) ∙ back_by (first (c.kept ++ bytes)) ∙ (λ i. record c { phase = sym fresh i })

    pub first_open : is_lost mid.phase ≡ false
    first_open = ap (λ (d : Connection). is_lost d.phase) mid_is ∙ open_by (first (c.kept ++ bytes))

-- ---- it was taken

either : (P : Served → Type 0) (b e : Bool) (u v w : Served) → P u → P v → P w → P (if b then u else (if e then v else w))
either P true e u v w h i j = h
either P false true u v w h i j = i
either P false false u v w h i j = j

module _ (g : step.Ground) (k : ℕ) (draw : List ℕ) (text : List ℕ → List ℕ) (c : Connection) (d : step.Desk) (ws : List Watch) where
  keeps_watches : (q : Option ConnectRequest) (end : FedEnd) → (first_served g k draw text c d ws q end).watches ≡ ws
  keeps_watches (Some q) end = either (λ w. w.watches ≡ ws) (is_refused q) (is_led g d) _ _ _ refl refl refl
  keeps_watches None ends.Ok = refl
  keeps_watches None (ends.Bad at) = refl
  keeps_watches None (ends.Word w) = refl

  stays_open : (q : Option ConnectRequest) (end : FedEnd) → is_lost c.phase ≡ false → is_lost (first_served g k draw text c d ws q end).connection.phase ≡ false
  stays_open (Some q) end h = either (λ w. is_lost w.connection.phase ≡ false) (is_refused q) (is_led g d) _ _ _ refl h refl
  stays_open None ends.Ok h = h
  stays_open None (ends.Bad at) h = refl
  stays_open None (ends.Word w) h = refl

some_luck : Luck
some_luck = record { events = None; requests = None; answers = None }

module _ (g : Ground) (k : ℕ) (draw : List ℕ) (text : List ℕ → List ℕ) (bytes : List ℕ) (m n : Member) (x y : Store) (ws : List Watch) (c c' : Connection) (o : Handed) where
  as_first : (p : Phase) (z : Connection × Fed) → IsFirst p → served_as (ground_in g x.state) some_luck k draw text (desk_of x [] []) ws p z.0 z.1 ≡ reads_first g k draw text x ws z.0 z.1.connect z.1.end
  as_first phase.Fresh z l = refl
  as_first (phase.Connecting ro) z l = refl
  as_first (phase.Live s e i) z l = absurd l
  as_first (phase.Closing lost) z l = absurd l

  taken_first : (mid : Connection) (f : Fed) → fed c bytes ≡ (mid, f) → IsFirst c.phase → taken g some_luck k draw text x ws c bytes ≡ reads_first g k draw text x ws mid f.connect f.end
  unfolding serves
  taken_first mid f e l = as_first c.phase (fed c bytes) l ∙ ap (λ (z : Connection × Fed). reads_first g k draw text x ws z.0 z.1.connect z.1.end) e

  pub takes_first : (mid : Connection) (f : Fed) → fed c bytes ≡ (mid, f) → IsFirst c.phase → is_lost mid.phase ≡ false → Makes g m x n y c' o (reads_first g k draw text x ws mid f.connect f.end) → Takes g k draw text bytes m x ws c n y ws c' o
  takes_first mid f e l unlost made =
      let same : taken g some_luck k draw text x ws c bytes ≡ reads_first g k draw text x ws mid f.connect f.end = taken_first mid f e l in
      let at : is_lost c'.phase ≡ false = ap (λ (z : Connection). is_lost z.phase) made.connection ∙ stays_open (ground_in g x.state) k draw text mid (desk_of x [] []) ws f.connect f.end unlost in record {
        luck = some_luck;
        connection = made.connection ∙ ap (λ (w : Served). w.connection) (sym same);
        watches =
            sym (keeps_watches (ground_in g x.state) k draw text mid (desk_of x [] []) ws f.connect f.end) ∙ ap (λ (w : Served). w.watches) (sym same)
            ∙ ap (λ b. if b then dropped (taken g some_luck k draw text x ws c bytes).watches k else (taken g some_luck k draw text x ws c bytes).watches) (sym at);
        over = subst (λ (w : Served). HandsOver g m w.desk.bodies w.desk.forwards o n) (sym same) made.sends.over;
        at = subst (λ (w : Served). AtDesk x g.term g.now y w.desk.bodies w.desk) (sym same) made.sends.at;
      }

pub is_first : (p : Phase) → p ≡ phase.Fresh → IsFirst p
is_first p e = subst IsFirst (sym e) tt

-- ---- one that waits

fed_waits : (p : Phase) (c : Connection) (bytes : List ℕ) → IsConnecting p → fed_as p c bytes ≡ (with_piece c bytes, nothing)
fed_waits phase.Fresh c bytes w = absurd w
fed_waits (phase.Connecting ro) c bytes w = refl
fed_waits (phase.Live s e n) c bytes w = absurd w
fed_waits (phase.Closing l) c bytes w = absurd w

waits_first : (p : Phase) → IsConnecting p → IsFirst p
waits_first phase.Fresh w = absurd w
waits_first (phase.Connecting ro) w = tt
waits_first (phase.Live s e n) w = absurd w
waits_first (phase.Closing l) w = absurd w

waits_open : (p : Phase) → IsConnecting p → is_lost p ≡ false
waits_open phase.Fresh w = refl
waits_open (phase.Connecting ro) w = refl
waits_open (phase.Live s e n) w = refl
waits_open (phase.Closing l) w = absurd w

pub waits_taken : (bytes : List ℕ) (c c' : Connection) (f : Fed) (end : FedEnd) (o : Handed) → IsConnecting c.phase → fed c bytes ≡ (c', f) → end ≡ f.end → o ≡ record { records = []; mail = [] } → TakesWaiting bytes c c' (record { handed = o; end = end })
unfolding fed
waits_taken bytes c c' f end o w e is none =
    let all : (c', f) ≡ (with_piece c bytes, nothing) = sym e ∙ fed_waits c.phase c bytes w in
    let read : f ≡ nothing = ap (λ (z : Connection × Fed). z.1) all in
    let conn : c' ≡ with_piece c bytes = ap (λ (z : Connection × Fed). z.0) all in (
      is ∙ sym (ap (λ (z : Connection × Fed). z.1.end) e),
      (
        ap is_word (is ∙ ap (λ (z : Fed). z.end) read),
        λ g k draw text m x ws room. takes_first g k draw text bytes m m x x ws c c' o c' f e (waits_first c.phase w) (ap (λ (z : Connection). is_lost z.phase) conn ∙ waits_open c.phase w)
            (subst (λ (z : Fed). Makes g m x m x c' o (reads_first g k draw text x ws c' z.connect z.end)) (sym read) (record { connection = refl; sends = sends_none g m x room o none })),
      ),
    )
