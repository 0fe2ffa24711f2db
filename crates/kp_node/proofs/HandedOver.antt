-- What was handed in goes on its way, or nothing of it does.
use Rattle.std.proofs.Common.{◌≡◌, ℕ, ◌+◌, ◌-◌, ◌≤◌, true, false, List, [], ◌∷◌, ◌++◌, length, take, map, Option, refl, ap, sym, subst, ◌∙◌, arith, append-nil, append_assoc, length-append}
use Rattle.std.specs.Prelude.{if◌then◌else◌, IsTrue}
use Rattle.std.specs.List.{list_all}
use Rattle.kp_model.specs.declared.entry.Body.{Body}
use Rattle.kp_model.specs.Grammar.{is_body}
use Rattle.kp_model.specs.Limits.{last_number}
use Rattle.kp_model.specs.Store.{Store, last as last_of, truncated}
use Rattle.kp_wire.specs.declared.request.Request.{Request}
use Rattle.kp_watch.specs.declared.watch.Watch.{Watch}
use Rattle.kp_watch.specs.Watching.{dropped}
use Rattle.kp_raft.specs.declared.event.RaftOut.{RaftOut}
use Rattle.kp_raft.specs.Members.{Member}
use Rattle.kp_snapshot.specs.Snapshots.{Snapshot}
use Rattle.kp_conn.specs.declared.fed.Fed.{Fed}
use Rattle.kp_conn.specs.Connection.{Connection, closed, is_lost}
use Rattle.kp_step.specs.Handing as step
use Rattle.kp_step.specs.Handing.{Joined, joined_so, joined_all, joined_one, joined_as, joined_write, taking, numbered, unnumbered, handed, is_led}
use Rattle.kp_node.specs.declared.joining.Ground.{Ground}
use Rattle.kp_node.specs.declared.serving.Handed.{Handed}
use Rattle.kp_node.specs.Proposing.{AtDesk, entries_of, Does, proposed_to}
use Rattle.kp_node.specs.Joining.{IsJoined, ground_in, desk_of, IsBehind, AreJoined}
use Rattle.kp_node.specs.Serving.{IsServed, IsEmptied, IsFinished, Proposes, HandsOver, Serves}
use Rattle.kp_node.proofs.Joined.{joined_empties}
use Rattle.kp_node.proofs.Served.{parts_serve, given_up}

-- ---- mail

module _ {A B : Type 0} (f : A → B) where
  pub more_sent : (ms ms' all : List B) (x : A) (xs rest : List A) → xs ≡ x ∷ rest → ms' ≡ ms ++ f x ∷ [] → ms ++ map f xs ≡ all → ms' ++ map f rest ≡ all
  more_sent ms ms' all x xs rest e is h = ap (λ zs. zs ++ map f rest) is ∙ append_assoc ms (f x ∷ []) (map f rest) ∙ sym (ap (λ zs. ms ++ map f zs) e) ∙ h

  pub none_sent : (ms all : List B) (xs : List A) → xs ≡ [] → ms ++ map f xs ≡ all → ms ≡ all
  none_sent ms all xs e h = sym (append-nil ms) ∙ sym (ap (λ zs. ms ++ map f zs) e) ∙ h

-- ---- Raft

module _ (m : Member) (now : ℕ) where
  pub proposes_none : (bs : List Body) → bs ≡ [] → Proposes m now bs [] m
  proposes_none bs e = subst (λ bs. Proposes m now bs [] m) (sym e) (record { records = refl; node = refl; members = refl; held = refl; running = refl })

  pub proposes_all : (bs : List Body) (out : RaftOut Snapshot) (n : Member) → Does (proposed_to m now bs) m out n → Proposes m now bs out.records n
  proposes_all bs out n s = record { records = s.records; node = s.node; members = s.members; held = s.held; running = s.running }

-- ---- what requests hand in

-- no request hands nothing in
none_hand : (g : step.Ground) (n : Option ℕ) (c : Connection) (d : step.Desk) (qs : List Request) → qs ≡ [] → (joined_all g n c d qs).desk ≡ d
unfolding joined_all
none_hand g n c d qs e = ap (λ qs. (joined_all g n c d qs).desk) e

-- ---- a connection is served

module _ (g : Ground) (k : ℕ) (f : Fed) (m n : Member) (x y : Store) (ws : List Watch) (c here : Connection) (bs₀ fs₀ bs fs : List Body) (none_taken : bs₀ ≡ []) (none_sent : fs₀ ≡ [])
    (joins : AreJoined g f.requests x bs₀ fs₀ c y bs fs here) (room : last_of x ≤ last_number) where
  abbrev h : step.Ground
  h = ground_in g x.state

  begun : IsBehind x g x [] []
  begun = record { store = ap (λ us. record x { unapplied = us }) (sym (append-nil x.unapplied)); latest = refl; room = refl; bodies = refl; within = room; numbers = refl }

  from : IsBehind x g y bs fs × IsJoined h c (desk_of x [] []) f.requests here (desk_of y bs fs)
  from = subst (λ (z : List Body × List Body). AreJoined g f.requests x z.0 z.1 c y bs fs here) (λ i. (none_taken i, none_sent i)) joins x x.state begun

  abbrev end_desk : step.Desk
  end_desk = (joined_all h from.1.0 c (desk_of x [] []) f.requests).desk

  desk_same : end_desk ≡ desk_of y bs fs
  desk_same = ap (λ (z : Connection × step.Desk). z.1) from.1.1

  pub within_numbers : IsTrue (list_all is_body bs)
  within_numbers = from.0.numbers

  pub emptied : is_lost c.phase ≡ false → IsEmptied here
  emptied live = subst IsEmptied (ap (λ (z : Connection × step.Desk). z.0) from.1.1) (joined_empties h from.1.0 c (desk_of x [] []) f.requests live)

  pub served : (mid ws' : List Watch) (c' : Connection) (o : Handed) → is_lost c.phase ≡ false → mid ≡ (if is_lost here.phase then dropped ws k else ws) → IsFinished y.state k f.end mid here ws' c' → HandsOver g m bs fs o n
      → Serves g k f m x ws c n y ws' c' o
  served mid ws' c' o live dropped_if finished over = record {
    desk = desk_of y bs fs;
    served = parts_serve h k ws mid ws' c here c' (desk_of x [] []) (desk_of y bs fs) f from.1 (emptied live) dropped_if (subst (λ s. IsFinished s k f.end mid here ws' c') (ap (λ (z : Store). z.state) from.0.store) finished);
    over = over;
    store = from.0.store;
    at = from.0;
  }

  -- where it finds no memory, there is a request
  abbrev GivesUp : Handed → Connection → List Watch → Store → Type 0
  GivesUp o c' ws' z = Serves g k f m x ws c n z ws' c' o

  refused_so : (o : Handed) (c' : Connection) (ws' : List Watch) (z : Store) → n ≡ m → o ≡ record { records = []; mail = [] } → c' ≡ closed true here → ws' ≡ dropped ws k → z ≡ truncated y (last_of x) → (q : Request) (qs : List Request) → f.requests ≡ q ∷ qs → GivesUp o c' ws' z
  refused_so o c' ws' z same none is gone back q qs e = record {
    desk = desk_of x [] [];
    served = subst (λ (w : List Watch × Connection). IsServed h k ws c (desk_of x [] []) f w.0 w.1 (desk_of x [] [])) (λ i. (sym gone i, sym is i)) (given_up h k ws c here (desk_of x [] []) (desk_of y bs fs) f q qs e from.1);
    over = subst (λ (w : Member × Handed). HandsOver g m [] [] w.1 w.0) (λ i. (sym same i, sym none i)) (record { raft = proposes_none m g.now [] refl; mail = refl });
    store = is_back ∙ ap (λ us. record x { unapplied = us }) (sym (append-nil x.unapplied));
    at = subst (λ w. AtDesk x g.term g.now w [] (desk_of x [] [])) (sym is_back) begun;
  }
    where
      taken_back : {A : Type 0} (n : ℕ) (us es : List A) → take (n + length us - n) (us ++ es) ≡ us
      taken_back n us es = (let same : n + length us - n ≡ length us = omega arith in ap (λ j. take j (us ++ es)) same) ∙ take_whole us es
        where
          take_whole : {A : Type 0} (us es : List A) → take (length us) (us ++ es) ≡ us
          take_whole [] es = refl
          take_whole (u ∷ us) es = ap (λ z. u ∷ z) (take_whole us es)

      is_back : z ≡ x
      is_back = back ∙ ap (λ (w : Store). truncated w (last_of x)) from.0.store ∙ ap (λ us. record x { unapplied = us }) (taken_back x.state.applied x.unapplied (entries_of g.term g.now bs))

  by_requests : (o : Handed) (c' : Connection) (ws' : List Watch) (z : Store) → n ≡ m → o ≡ record { records = []; mail = [] } → c' ≡ closed true here → ws' ≡ dropped ws k → z ≡ truncated y (last_of x) → (bs ≡ [] → fs ≡ [] → ⊥) → (qs : List Request) → f.requests ≡ qs → GivesUp o c' ws' z
  by_requests o c' ws' z same none is gone back some [] e =
      let d : desk_of y bs fs ≡ desk_of x [] [] = sym desk_same ∙ none_hand h from.1.0 c (desk_of x [] []) f.requests e in
      absurd (some (ap (λ (d : step.Desk). d.bodies) d) (ap (λ (d : step.Desk). d.forwards) d))
  by_requests o c' ws' z same none is gone back some (q ∷ qs) e = refused_so o c' ws' z same none is gone back q qs e

  pub gives_up : (o : Handed) (c' : Connection) (ws' : List Watch) (z : Store) → n ≡ m → o ≡ record { records = []; mail = [] } → c' ≡ closed true here → ws' ≡ dropped ws k → z ≡ truncated y (last_of x) → (bs ≡ [] → fs ≡ [] → ⊥) → GivesUp o c' ws' z
  gives_up o c' ws' z same none is gone back some = by_requests o c' ws' z same none is gone back some f.requests refl

  pub stands_from : y.state.applied ≤ last_of x
  stands_from = let e : y.state.applied ≡ x.state.applied = ap (λ (z : Store). z.state.applied) from.0.store in omega (arith, e)

  pub stands_to : last_of x ≤ last_of y
  stands_to =
      let e : last_of y ≡ x.state.applied + length (x.unapplied ++ entries_of g.term g.now bs) = ap last_of from.0.store in
      let l = length-append x.unapplied (entries_of g.term g.now bs) in
      omega (arith, e, l)
