-- What a write of one part leaves of all parts.
use Rattle.std.proofs.Common.{◌≡◌, ℕ, Bool, true, nat_eq, ◌||◌, List, [], ◌∷◌, length, Option, Some, IsSome, is_some, refl, ap, sym, ◌∙◌, subst}
use Rattle.std.specs.Prelude.{cond}
use Rattle.std.specs.Str.{bytes_eq}
use Rattle.std.specs.Ordering.{nat_cmp}
use Rattle.std.specs.FinMap.{get}
use Rattle.kp_layers.specs.Layering.{Layering, written}
use Rattle.kp_layers.specs.Used.{is_used}
use Rattle.kp_model.specs.State.{path_cmp}
use Rattle.kp_model.specs.declared.node.Acl.{Acl}
use Rattle.kp_model.specs.declared.node.Meta.{Meta}
use Rattle.kp_model.specs.declared.session.Session.{Session}
use Rattle.kp_cells.specs.declared.nodes.Nodes.{Nodes}
use Rattle.kp_cells.specs.declared.nodes.Part.{Part}
use Rattle.kp_cells.specs.declared.nodes.Part.TheVariants as part
use Rattle.kp_cells.specs.Overlays.{Overlays}
use Rattle.kp_cells.specs.Naming.{Naming, IsNaming, IsNamed, Grows, layers_by_path}
use Rattle.kp_cells.specs.Held.{overlays, AreAlike, AreHeld}
use Rattle.kp_cells.specs.Staging.{staged_part, with_part}
use Rattle.kp_cells.specs.Traced.{Trace, latest_in, is_in, left, uses, IsTraced, AreUsed, AreKept}
use Rattle.kp_cells.proofs.ByPath.{written_by_path, named_written, grown_by_path, grown_named}
use Rattle.kp_cells.proofs.Kept.{used_then, used_in_vain}
use Rattle.kp_cells.proofs.Released.{left_true, right_true, held_still, overlays_still}
use Rattle.kp_cells.proofs.Together.{after_give}
use Rattle.kp_cells.proofs.Traces.{Keeps, traced_same, traced_more, traced_written, keeps_same, keeps_written, writes_use, all_kept}

-- one part before and after, and by paths
record Goes {V : Type 0} (names' : Naming) (t' : Trace) (l l' : Layering nat_cmp V) (seen : Layering path_cmp V) : Type 0 where
  named : IsNamed names' l'
  traced : IsTraced t' l'
  keeps : Keeps l l'
  layers : length l'.layers ≡ length l.layers
  staged : is_some l'.staged ≡ is_some l.staged
  is : layers_by_path names' l' ≡ seen

alike : {V W : Type 0} (l l' : Layering nat_cmp V) (m m' : Layering nat_cmp W) → length l'.layers ≡ length l.layers → is_some l'.staged ≡ is_some l.staged → length m'.layers ≡ length m.layers → is_some m'.staged ≡ is_some m.staged → AreAlike l m → AreAlike l' m'
alike l l' m m' a b c d h = record { layers = c ∙ h.layers ∙ sym a; staged = d ∙ h.staged ∙ sym b }

-- a path has its number, and the trace has it
module _ (names names' : Naming) (h : IsNaming names) (h' : IsNaming names') (grows : Grows names names') (t t' : Trace) (path : List ℕ) (number : ℕ) (is : get names'.numbers path ≡ Some number)
    (only : (p : List ℕ) → get names'.numbers p ≡ cond (bytes_eq path p) (Some number) (get names.numbers p))
    (layers : t'.layers ≡ t.layers) (numbers : (n : ℕ) → is_in n (latest_in t') ≡ (is_in n (latest_in t) || nat_eq n number)) where
  stays : {V : Type 0} (l : Layering nat_cmp V) → IsNamed names l → IsTraced t l → Goes names' t' l l (layers_by_path names l)
  stays l named traced = record {
    named = grown_named names names' h h' grows l named;
    traced = traced_more t t' number layers numbers l traced;
    keeps = keeps_same l l refl;
    layers = refl;
    staged = refl;
    is = grown_by_path names names' h h' grows l named;
  }

  writes : {V : Type 0} (l : Layering nat_cmp V) (value : Option V) → IsNamed names l → IsTraced t l → IsSome l.staged → Goes names' t' l (written l number value) (written (layers_by_path names l) path value)
  writes l value named traced open_ = record {
    named = named_written names' h' l number value (path, is) (grown_named names names' h h' grows l named);
    traced = traced_written t t' number layers numbers l (written l number value) value refl traced;
    keeps = keeps_written l (written l number value) number value refl;
    layers = refl;
    staged = sym open_;
    is = written_by_path names' h' l path number value is ∙ ap (λ x. written x path value) (grown_by_path names names' h h' grows l named);
  }

  -- all parts and the two that have no paths
  module _ (sessions : Layering nat_cmp Session) (next : Layering nat_cmp ℕ) (applied : ℕ) (n : Nodes) (k : AreKept names t n.metas n.contents n.acls n.children n.owners sessions next) (open_ : IsSome t'.staged) where
    abbrev Result : Nodes → Overlays → Type 0
    Result n' o = AreKept names' t' n'.metas n'.contents n'.acls n'.children n'.owners sessions next × (overlays names' n'.metas n'.contents n'.acls n'.children n'.owners sessions next applied ≡ o)

    together : (n' : Nodes) (o : Overlays) → Goes names' t' n.metas n'.metas o.metas → Goes names' t' n.contents n'.contents o.contents → Goes names' t' n.acls n'.acls o.acls → Goes names' t' n.children n'.children o.children → Goes names' t' n.owners n'.owners o.owners
        → o.sessions ≡ sessions → o.next ≡ next → o.applied ≡ applied → uses n'.metas n'.contents n'.acls n'.children n'.owners number ≡ true → IsSome n.metas.staged → Result n' o
    together n' o m c a ch ow s x i used there = (
      record {
        held = record {
          naming = h';
          metas_named = m.named;
          contents_named = c.named;
          acls_named = a.named;
          children_named = ch.named;
          owners_named = ow.named;
          contents_alike = alike n.metas n'.metas n.contents n'.contents m.layers m.staged c.layers c.staged k.held.contents_alike;
          acls_alike = alike n.metas n'.metas n.acls n'.acls m.layers m.staged a.layers a.staged k.held.acls_alike;
          children_alike = alike n.metas n'.metas n.children n'.children m.layers m.staged ch.layers ch.staged k.held.children_alike;
          owners_alike = alike n.metas n'.metas n.owners n'.owners m.layers m.staged ow.layers ow.staged k.held.owners_alike;
          sessions_alike = alike n.metas n'.metas sessions sessions m.layers m.staged refl refl k.held.sessions_alike;
          next_alike = alike n.metas n'.metas next next m.layers m.staged refl refl k.held.next_alike;
        };
        used = used_then names names' path number (uses n.metas n.contents n.acls n.children n.owners) (uses n'.metas n'.contents n'.acls n'.children n'.owners) only k.used
            (all_kept n.metas n'.metas n.contents n'.contents n.acls n'.acls n.children n'.children n.owners n'.owners m.keeps c.keeps a.keeps ch.keeps ow.keeps) used;
        open_too = open_ ∙ sym (m.staged ∙ there);
        metas_traced = m.traced;
        contents_traced = c.traced;
        acls_traced = a.traced;
        children_traced = ch.traced;
        owners_traced = ow.traced;
      },
      let es : sessions ≡ o.sessions = sym s in
          let ex : next ≡ o.next = sym x in
          let ei : applied ≡ o.applied = sym i in
          let em : layers_by_path names' n'.metas ≡ o.metas = m.is in
          let ec : layers_by_path names' n'.contents ≡ o.contents = c.is in
          let ea : layers_by_path names' n'.acls ≡ o.acls = a.is in
          let ek : layers_by_path names' n'.children ≡ o.children = ch.is in
          let eo : layers_by_path names' n'.owners ≡ o.owners = ow.is in
          λ j. record { metas = em j; contents = ec j; acls = ea j; children = ek j; owners = eo j; sessions = es j; next = ex j; applied = ei j },
    )

    abbrev before : Overlays
    before = overlays names n.metas n.contents n.acls n.children n.owners sessions next applied

    written_one : (p : Part) → IsSome n.metas.staged → Result (staged_part n number p) (with_part before path p)
    written_one (part.Meta v) there = together _ _ (writes n.metas v k.held.metas_named k.metas_traced there) (stays n.contents k.held.contents_named k.contents_traced) (stays n.acls k.held.acls_named k.acls_traced) (stays n.children k.held.children_named k.children_traced) (stays n.owners k.held.owners_named k.owners_traced)
        refl refl refl (left_true _ _ (writes_use n.metas _ number v refl)) there
    written_one (part.Content v) there = together _ _ (stays n.metas k.held.metas_named k.metas_traced) (writes n.contents v k.held.contents_named k.contents_traced (k.held.contents_alike.staged ∙ there)) (stays n.acls k.held.acls_named k.acls_traced) (stays n.children k.held.children_named k.children_traced) (stays n.owners k.held.owners_named k.owners_traced)
        refl refl refl (right_true (is_used n.metas number) _ (left_true _ _ (writes_use n.contents _ number v refl))) there
    written_one (part.Acl v) there = together _ _ (stays n.metas k.held.metas_named k.metas_traced) (stays n.contents k.held.contents_named k.contents_traced) (writes n.acls v k.held.acls_named k.acls_traced (k.held.acls_alike.staged ∙ there)) (stays n.children k.held.children_named k.children_traced) (stays n.owners k.held.owners_named k.owners_traced)
        refl refl refl (right_true (is_used n.metas number) _ (right_true (is_used n.contents number) _ (left_true _ _ (writes_use n.acls _ number v refl)))) there
    written_one (part.Child v) there = together _ _ (stays n.metas k.held.metas_named k.metas_traced) (stays n.contents k.held.contents_named k.contents_traced) (stays n.acls k.held.acls_named k.acls_traced) (writes n.children v k.held.children_named k.children_traced (k.held.children_alike.staged ∙ there)) (stays n.owners k.held.owners_named k.owners_traced)
        refl refl refl (right_true (is_used n.metas number) _ (right_true (is_used n.contents number) _ (right_true (is_used n.acls number) _ (left_true _ _ (writes_use n.children _ number v refl))))) there
    written_one (part.Owner v) there = together _ _ (stays n.metas k.held.metas_named k.metas_traced) (stays n.contents k.held.contents_named k.contents_traced) (stays n.acls k.held.acls_named k.acls_traced) (stays n.children k.held.children_named k.children_traced) (writes n.owners v k.held.owners_named k.owners_traced (k.held.owners_alike.staged ∙ there))
        refl refl refl (right_true (is_used n.metas number) _ (right_true (is_used n.contents number) _ (right_true (is_used n.acls number) _ (right_true (is_used n.children number) _ (writes_use n.owners _ number v refl))))) there

    -- the parts after a write of one of them
    pub after_part : (n' : Nodes) (p : Part) → n' ≡ staged_part n number p → IsSome n.metas.staged → Result n' (with_part before path p)
    after_part n' p e there = subst (λ x. Result x (with_part before path p)) (sym e) (written_one p there)

-- a write for which there was no memory: the path gives its number back, unless it was in use
module _ (names given names' : Naming) (t t' : Trace) (path : List ℕ) (number : ℕ) (sessions : Layering nat_cmp Session) (next : Layering nat_cmp ℕ) (applied : ℕ) (n : Nodes)
    (k : AreKept names t n.metas n.contents n.acls n.children n.owners sessions next) (naming : IsNaming given) (grows : Grows names given)
    (only : (p : List ℕ) → get given.numbers p ≡ cond (bytes_eq path p) (Some number) (get names.numbers p))
    (layers : t'.layers ≡ t.layers) (staged : t'.staged ≡ t.staged) (naming' : IsNaming names') where
  abbrev Still : Nodes → Type 0
  Still n' = ((p : List ℕ) → get names'.numbers p ≡ left (uses n'.metas n'.contents n'.acls n'.children n'.owners) (number ∷ []) (get given.numbers p)) → AreKept names' t' n'.metas n'.contents n'.acls n'.children n'.owners sessions next × (overlays names' n'.metas n'.contents n'.acls n'.children n'.owners sessions next applied ≡ overlays names n.metas n.contents n.acls n.children n.owners sessions next applied)

  in_vain : Still n
  in_vain numbers =
      let now = after_give names given n.metas n.metas n.contents n.contents n.acls n.acls n.children n.children n.owners n.owners sessions sessions next next applied naming grows refl refl refl refl refl refl refl k.held in (
        record {
          held = held_still given names' n.metas n.contents n.acls n.children n.owners sessions next applied (number ∷ []) numbers naming' now.0;
          used = used_in_vain names given path number (uses n.metas n.contents n.acls n.children n.owners) (uses n.metas n.contents n.acls n.children n.owners) only k.used (λ m u. u) names' numbers;
          open_too = ap is_some staged ∙ k.open_too;
          metas_traced = traced_same t t' n.metas layers staged k.metas_traced;
          contents_traced = traced_same t t' n.contents layers staged k.contents_traced;
          acls_traced = traced_same t t' n.acls layers staged k.acls_traced;
          children_traced = traced_same t t' n.children layers staged k.children_traced;
          owners_traced = traced_same t t' n.owners layers staged k.owners_traced;
        },
        overlays_still given names' n.metas n.contents n.acls n.children n.owners sessions next applied (number ∷ []) numbers naming' now.0 ∙ now.1,
      )

  pub after_none : (n' : Nodes) → n' ≡ n → Still n'
  after_none n' e = subst Still (sym e) in_vain
