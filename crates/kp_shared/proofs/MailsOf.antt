-- The messages of one thought more.
use Rattle.std.proofs.Common.{List, [], ◌∷◌, ◌++◌, sym, ap, ◌∙◌, subst}
use Rattle.kp_links.specs.declared.link.LinkSeat.{LinkSeat}
use Rattle.kp_event.specs.declared.thought.Thought.{Thought}
use Rattle.kp_shared.specs.Letters.{Letter}
use Rattle.kp_shared.specs.declared.peers.Peers.{Peers}
use Rattle.kp_shared.specs.Posts.{Posts}
use Rattle.kp_shared.specs.Tasks.{mails_of}
use Rattle.kp_shared.proofs.Lists.{append_nil, mails_both}
use Rattle.kp_shared.proofs.Mailing.{posts_more}

module _ {M : Type 0} where
  pub posts_thought : (ts : List (Thought (Letter M))) (t : Thought (Letter M)) (a b c : Peers (LinkSeat M)) → Posts (mails_of ts) a b → Posts t.mail b c → Posts (mails_of (ts ++ t ∷ [])) a c
  posts_thought ts t a b c s m = subst (λ (l : List (Letter M)). Posts l a c) (ap (λ (l : List (Letter M)). mails_of ts ++ l) (sym (append_nil t.mail)) ∙ sym (mails_both ts (t ∷ [])))
      (posts_more (mails_of ts) t.mail a b c s m)
