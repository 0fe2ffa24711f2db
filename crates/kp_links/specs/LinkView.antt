-- What a seat of a link knows, and how a call changes it. All definitions of this crate are this project's own.
use Rattle.std.specs.Prelude.{◌≡◌, ◌+◌, List, [], ◌∷◌, ◌++◌}
use Rattle.kp_links.specs.declared.view.LinkView.{LinkView}

-- ys begins with xs
abbrev pub IsPrefix : {B : Type 0} → List B → List B → Type 0
IsPrefix {B} xs ys = (more : List B) × (ys ≡ xs ++ more)

module _ {M : Type 0} where
  -- the view of a new seat
  abbrev pub no_mail : LinkView M
  no_mail = record { all_sent = []; all_taken = []; sent = []; taken = []; splits = 0 }

  -- one more seat was split off
  abbrev pub with_split : LinkView M → LinkView M
  with_split v = record v { splits = v.splits + 1 }

  -- the message was sent behind all that was sent before, and nothing else changed
  pub record Sends (v : LinkView M) (x : M) (w : LinkView M) : Type 0 where
    pub before : List M
    pub seen : IsPrefix v.all_sent before
    pub same : w ≡ record v { all_sent = before ++ x ∷ []; sent = v.sent ++ x ∷ [] }

  -- the message was taken behind all that was taken before, all of which was sent in this order; and nothing else changed
  pub record Takes (v : LinkView M) (x : M) (w : LinkView M) : Type 0 where
    pub before : List M
    pub seen : IsPrefix v.all_taken before
    pub all_sent : List M
    pub sent_seen : IsPrefix v.all_sent all_sent
    pub was_sent : IsPrefix (before ++ x ∷ []) all_sent
    pub same : w ≡ record v { all_sent = all_sent; all_taken = before ++ x ∷ []; taken = v.taken ++ x ∷ [] }

  -- at a moment at which no less was sent and taken than the seat knows of, the queue held these messages
  abbrev pub Allowing : LinkView M → List M → Type 0
  Allowing v items = (taken : List M) × IsPrefix v.all_taken taken × IsPrefix v.all_sent (taken ++ items)
