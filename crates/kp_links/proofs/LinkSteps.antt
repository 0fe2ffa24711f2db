-- Each call keeps the rule of a link's queue, and tells what it says.
use Rattle.std.proofs.Common.{◌≡◌, ℕ, ◌≤◌, List, [], ◌∷◌, ◌++◌, length, set, sym, refl, ap, ◌∙◌, subst, ⊎_elim, arith, append_assoc, length-set, length-append}
use Rattle.std.proofs.lemmas.List.{map-append}
use Rattle.crossbeam_queue.specs.Fifo.{Pushes, Pops, Forks, Learns}
use Rattle.kp_links.specs.declared.view.LinkView.{LinkView}
use Rattle.kp_links.specs.LinkView.{IsPrefix, Sends, Takes, Allowing, no_mail, with_split}
use Rattle.kp_links.specs.LinkRule.{Fits, IsLink, messages}
use Rattle.kp_links.proofs.Lists.{IsPrefix-self, IsPrefix-append, each_set, at_append, at_below, of_seat-more, of_seat-same}

module _ {M : Type 0} where
  messages-more : (ps : List (ℕ × M)) (j : ℕ) (x : M) → messages (ps ++ (j, x) ∷ []) ≡ messages ps ++ x ∷ []
  messages-more ps j x = map-append (λ (p : ℕ × M). p.1) ps ((j, x) ∷ [])

  -- an empty queue and its first seat
  pub begins : IsLink {M = M} [] (no_mail ∷ [])
  begins = record {
    log = [];
    gone = [];
    flows = refl;
    each = each_set (no_mail ∷ []) 0 no_mail (Fits [] []) record { sent_seen = ([], refl); taken_seen = ([], refl); own_sent = refl; own_taken = refl }
        (λ j u other at. absurd (other (let below = at_below (no_mail ∷ []) j u at in omega arith)));
    later = λ j _. (refl, refl);
  }

  -- sending
  pub sends : (n port : ℕ) (v : LinkView M) (x : M) → Pushes IsLink n port v x (Sends v x)
  sends n port v x items views room h at =
      let before : List M = messages h.log in
      let log : List (ℕ × M) = h.log ++ (port, x) ∷ [] in
      let w : LinkView M = record v { all_sent = before ++ x ∷ []; sent = v.sent ++ x ∷ [] } in
      let mine = h.each port v at in
      let here = at_below views port v at in
      let grown : messages log ≡ before ++ x ∷ [] = messages-more h.log port x in (
        w,
        record {
          log = log;
          gone = h.gone;
          flows = grown ∙ ap (λ (l : List M). l ++ x ∷ []) h.flows ∙ append_assoc (messages h.gone) items (x ∷ []);
          each = each_set views port w (Fits log h.gone)
              record {
                sent_seen = subst (λ (l : List M). IsPrefix (before ++ x ∷ []) l) (sym grown) (IsPrefix-self (before ++ x ∷ []));
                taken_seen = mine.taken_seen;
                own_sent = ap (λ (l : List M). l ++ x ∷ []) mine.own_sent ∙ sym (of_seat-more port h.log x);
                own_taken = mine.own_taken;
              }
              (λ j u other there. let fit = h.each j u there in record {
                sent_seen = subst (λ (l : List M). IsPrefix u.all_sent l) (sym grown) (IsPrefix-append u.all_sent before (x ∷ []) fit.sent_seen);
                taken_seen = fit.taken_seen;
                own_sent = fit.own_sent ∙ sym (of_seat-same j port h.log x (λ e. other (sym e)));
                own_taken = fit.own_taken;
              });
          later = λ j behind. let beyond : length views ≤ j = (let l = length-set views port w in omega arith) in
              (of_seat-same j port h.log x (λ e. absurd (omega arith)) ∙ (h.later j beyond).0, (h.later j beyond).1);
        },
        record { before = before; seen = mine.sent_seen; same = refl },
      )

  -- taking
  pub takes : (port : ℕ) (v : LinkView M) → Pops IsLink port v (Takes v)
  takes port v x items views h at =
      let before : List M = messages h.gone in
      let gone : List (ℕ × M) = h.gone ++ (port, x) ∷ [] in
      let w : LinkView M = record v { all_sent = messages h.log; all_taken = before ++ x ∷ []; taken = v.taken ++ x ∷ [] } in
      let mine = h.each port v at in
      let here = at_below views port v at in
      let grown : messages gone ≡ before ++ x ∷ [] = messages-more h.gone port x in
      let flows : messages h.log ≡ (before ++ x ∷ []) ++ items = h.flows ∙ sym (append_assoc before (x ∷ []) items) in (
        w,
        record {
          log = h.log;
          gone = gone;
          flows = flows ∙ ap (λ (l : List M). l ++ items) (sym grown);
          each = each_set views port w (Fits h.log gone)
              record {
                sent_seen = IsPrefix-self (messages h.log);
                taken_seen = subst (λ (l : List M). IsPrefix (before ++ x ∷ []) l) (sym grown) (IsPrefix-self (before ++ x ∷ []));
                own_sent = mine.own_sent;
                own_taken = ap (λ (l : List M). l ++ x ∷ []) mine.own_taken ∙ sym (of_seat-more port h.gone x);
              }
              (λ j u other there. let fit = h.each j u there in record {
                sent_seen = fit.sent_seen;
                taken_seen = subst (λ (l : List M). IsPrefix u.all_taken l) (sym grown) (IsPrefix-append u.all_taken before (x ∷ []) fit.taken_seen);
                own_sent = fit.own_sent;
                own_taken = fit.own_taken ∙ sym (of_seat-same j port h.gone x (λ e. other (sym e)));
              });
          later = λ j behind. let beyond : length views ≤ j = (let l = length-set views port w in omega arith) in
              ((h.later j beyond).0, of_seat-same j port h.gone x (λ e. absurd (omega arith)) ∙ (h.later j beyond).1);
        },
        record { before = before; seen = mine.taken_seen; all_sent = messages h.log; sent_seen = mine.sent_seen; was_sent = (items, flows); same = refl },
      )

  -- what the queue holds at any moment
  pub allows : (port : ℕ) (v : LinkView M) → Learns IsLink port v (Allowing v)
  allows port v items views h at = let mine = h.each port v at in (messages h.gone, mine.taken_seen, subst (λ (l : List M). IsPrefix v.all_sent l) h.flows mine.sent_seen)

  -- splitting a seat off
  pub splits : (port : ℕ) (v : LinkView M) → Forks IsLink port v (with_split v) no_mail
  splits port v items views h at = let left : LinkView M = with_split v in let views' : List (LinkView M) = set views port left in
      let same : length views' ≡ length views = length-set views port left in
      let here = h.later (length views) (omega arith) in record {
        log = h.log;
        gone = h.gone;
        flows = h.flows;
        each = λ j u there. ⊎_elim
            (λ old. each_set views port left (Fits h.log h.gone) (let mine = h.each port v at in record { sent_seen = mine.sent_seen; taken_seen = mine.taken_seen; own_sent = mine.own_sent; own_taken = mine.own_taken })
            (λ k y other at'. h.each k y at') j u old)
            (λ new. subst (Fits h.log h.gone j) new.1 (subst (λ (k : ℕ). Fits h.log h.gone k no_mail) (sym (new.0 ∙ same))
            record { sent_seen = (messages h.log, refl); taken_seen = (messages h.gone, refl); own_sent = sym here.0; own_taken = sym here.1 }))
            (at_append views' no_mail u j there);
        later = λ j behind. h.later j (let l = length-append views' (no_mail ∷ []) in omega arith);
      }
