-- What is sent on links, one call after another.
use Rattle.std.proofs.Common.{◌≡◌, inl, inr, ℕ, ◌≤◌, ◌^◌, List, [], ◌∷◌, ◌++◌, sym, refl, ap, ◌∙◌, subst, ⊎_elim, arith, append_assoc, length-append}
use Rattle.std.specs.Prelude.{◌==◌, filter, map, Option, Some, None, Result, Ok, Err, MatchResult}
use Rattle.std.proofs.lemmas.List.{map-append}
use Rattle.std.proofs.lemmas.List.Elements.{filter-append}
use Rattle.crossbeam_queue.specs.Fifo.{Held}
use Rattle.kp_links.specs.declared.link.LinkSeat.{LinkSeat}
use Rattle.kp_links.specs.declared.view.LinkView.{LinkView}
use Rattle.kp_links.specs.LinkView.{Allowing, Sends}
use Rattle.kp_links.specs.LinkSeats.{link_view, refused_after, refused_of}
use Rattle.kp_shared.specs.declared.peers.Peers.{Peers}
use Rattle.kp_shared.specs.Letters.{Letter}
use Rattle.kp_shared.specs.Posts.{IsSome-of, Posts, Sent, SentTo, to_peer}
use Rattle.kp_shared.proofs.Lists.{append_nil}

module _ {B : Type 0} where
  some_behind : (xs zs ys : List B) → IsSome-of xs ys → IsSome-of xs (zs ++ ys)
  some_behind [] zs ys s = tt
  some_behind (x ∷ xs) [] ys s = s
  some_behind (x ∷ xs) (z ∷ zs) ys s = inr (some_behind (x ∷ xs) zs ys s)

  pub some_append : (xs us ys bs : List B) → IsSome-of xs us → IsSome-of ys bs → IsSome-of (xs ++ ys) (us ++ bs)
  some_append [] us ys bs s t = some_behind ys us bs t
  some_append (x ∷ xs) [] ys bs s t = absurd s
  some_append (x ∷ xs) (a ∷ us) ys bs s t = ⊎_elim (λ e. inl (e.0, some_append xs us ys bs e.1 t)) (λ r. inr (some_append (x ∷ xs) us ys bs r t)) s

module _ {M : Type 0} where
  pub sent_none : (a : LinkSeat M) → Sent [] a a
  sent_none a = record { sent = []; some_of = tt; grows = sym (append_nil (link_view a).sent); taken = refl; splits = refl; rises = omega arith; lost = λ small. refl }

  pub sent_more : (xs ys : List M) (a b c : LinkSeat M) → Sent xs a b → Sent ys b c → Sent (xs ++ ys) a c
  sent_more xs ys a b c s t = record {
    sent = s.sent ++ t.sent;
    some_of = some_append s.sent xs t.sent ys s.some_of t.some_of;
    grows = t.grows ∙ ap (λ (l : List M). l ++ t.sent) s.grows ∙ append_assoc (link_view a).sent s.sent t.sent;
    taken = t.taken ∙ s.taken;
    splits = t.splits ∙ s.splits;
    rises = let p = s.rises in let q = t.rises in omega arith;
    lost = λ small. let q = t.rises in let e = s.lost (omega arith) in let f = t.lost small in omega (arith, length-append xs ys, length-append s.sent t.sent);
  }

  pub to_none : (a : Option (LinkSeat M)) → SentTo [] a a
  to_none None = tt
  to_none (Some a) = sent_none a

  to_more : (xs ys : List M) (a b c : Option (LinkSeat M)) → SentTo xs a b → SentTo ys b c → SentTo (xs ++ ys) a c
  to_more xs ys None None None s t = tt
  to_more xs ys None None (Some c) s t = absurd t
  to_more xs ys None (Some b) c s t = absurd s
  to_more xs ys (Some a) None c s t = absurd s
  to_more xs ys (Some a) (Some b) None s t = absurd t
  to_more xs ys (Some a) (Some b) (Some c) s t = sent_more xs ys a b c s t

  -- one call of `send`
  pub sent_one : {E : Type 0} (m : M) (a b : LinkSeat M) (r : Result (Unit {0}) E) → MatchResult r (λ _. Sends (link_view a) m (link_view b)) (λ _. (link_view b ≡ link_view a) × Held 1024 (Allowing (link_view a)))
      → refused_of b ≡ refused_after r (refused_of a) → refused_of a ≤ 2 ^ 62 → Sent (m ∷ []) a b
  sent_one m a b (Ok u) s e few = record {
    sent = m ∷ [];
    some_of = inl (refl, tt);
    grows = ap (λ (v : LinkView M). v.sent) s.same;
    taken = ap (λ (v : LinkView M). v.taken) s.same;
    splits = ap (λ (v : LinkView M). v.splits) s.same;
    rises = omega arith;
    lost = λ small. omega arith;
  }
  sent_one m a b (Err x) s e few = record {
    sent = [];
    some_of = tt;
    grows = ap (λ (v : LinkView M). v.sent) s.0 ∙ sym (append_nil (link_view a).sent);
    taken = ap (λ (v : LinkView M). v.taken) s.0;
    splits = ap (λ (v : LinkView M). v.splits) s.0;
    rises = omega arith;
    lost = λ small. omega arith;
  }

module _ {M : Type 0} where
  pub posts_none : (a : Peers (LinkSeat M)) → Posts [] a a
  posts_none a = record { one = to_none a.one; two = to_none a.two; three = to_none a.three; four = to_none a.four; five = to_none a.five; six = to_none a.six; seven = to_none a.seven }

  peer_both : (p : ℕ) (xs ys : List (Letter M)) → to_peer p (xs ++ ys) ≡ to_peer p xs ++ to_peer p ys
  peer_both p xs ys = ap (λ (l : List (Letter M)). map (λ (x : Letter M). x.1) l) (filter-append (λ (x : Letter M). x.0 == p) xs ys)
      ∙ map-append (λ (x : Letter M). x.1) (filter (λ (x : Letter M). x.0 == p) xs) (filter (λ (x : Letter M). x.0 == p) ys)

  pub posts_more : (xs ys : List (Letter M)) (a b c : Peers (LinkSeat M)) → Posts xs a b → Posts ys b c → Posts (xs ++ ys) a c
  posts_more xs ys a b c s t =
      let parts : (p : ℕ) → to_peer p xs ++ to_peer p ys ≡ to_peer p (xs ++ ys) = λ p. sym (peer_both p xs ys) in record {
        one = subst (λ (l : List M). SentTo l a.one c.one) (parts 1) (to_more (to_peer 1 xs) (to_peer 1 ys) a.one b.one c.one s.one t.one);
        two = subst (λ (l : List M). SentTo l a.two c.two) (parts 2) (to_more (to_peer 2 xs) (to_peer 2 ys) a.two b.two c.two s.two t.two);
        three = subst (λ (l : List M). SentTo l a.three c.three) (parts 3) (to_more (to_peer 3 xs) (to_peer 3 ys) a.three b.three c.three s.three t.three);
        four = subst (λ (l : List M). SentTo l a.four c.four) (parts 4) (to_more (to_peer 4 xs) (to_peer 4 ys) a.four b.four c.four s.four t.four);
        five = subst (λ (l : List M). SentTo l a.five c.five) (parts 5) (to_more (to_peer 5 xs) (to_peer 5 ys) a.five b.five c.five s.five t.five);
        six = subst (λ (l : List M). SentTo l a.six c.six) (parts 6) (to_more (to_peer 6 xs) (to_peer 6 ys) a.six b.six c.six s.six t.six);
        seven = subst (λ (l : List M). SentTo l a.seven c.seven) (parts 7) (to_more (to_peer 7 xs) (to_peer 7 ys) a.seven b.seven c.seven s.seven t.seven);
      }
