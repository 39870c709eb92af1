-- Chains with one operand more.
use Rattle.std.proofs.Common.{◌≡◌, refl, List, [], ◌∷◌, ◌++◌, ◌∙◌, ap}
use Rattle.std.proofs.lemmas.List.{map-append}
use Rattle.qgm_terms.specs.Shown.{cond, conds, link, links, term}
use Rattle.qgm_terms.specs.Terms as t
use Rattle.qgm_terms.specs.declared.tree.Gc.{Gc}
use Rattle.qgm_terms.specs.declared.tree.Link.{Link}

linked_last : (x : t.Term) (ls : List t.Link) (l : t.Link) → t.linked x (ls ++ l ∷ []) ≡ t.both l.op (t.linked x ls) l.right
linked_last x [] l = refl
linked_last x (k ∷ ls) l = linked_last (t.both k.op x k.right) ls l

anded_last : (p : t.Cond) (ps : List t.Cond) (r : t.Cond) → t.anded p (ps ++ r ∷ []) ≡ t.and (t.anded p ps) r
anded_last p [] r = refl
anded_last p (s ∷ ps) r = anded_last (t.and p s) ps r

ored_last : (p : t.Cond) (ps : List t.Cond) (r : t.Cond) → t.ored p (ps ++ r ∷ []) ≡ t.or (t.ored p ps) r
ored_last p [] r = refl
ored_last p (s ∷ ps) r = ored_last (t.or p s) ps r

pub linked_more : (a : t.Term) (ls new : List Link) (l : Link) → new ≡ ls ++ l ∷ [] → t.linked a (links new) ≡ t.both l.op (t.linked a (links ls)) (term l.right)
linked_more a ls new l e = ap (λ xs. t.linked a (links xs)) e ∙ ap (t.linked a) (map-append link ls (l ∷ [])) ∙ linked_last a (links ls) (link l)

pub anded_more : (a : t.Cond) (ps new : List Gc) (p : Gc) → new ≡ ps ++ p ∷ [] → t.anded a (conds new) ≡ t.and (t.anded a (conds ps)) (cond p)
anded_more a ps new p e = ap (λ xs. t.anded a (conds xs)) e ∙ ap (t.anded a) (map-append cond ps (p ∷ [])) ∙ anded_last a (conds ps) (cond p)

pub ored_more : (a : t.Cond) (ps new : List Gc) (p : Gc) → new ≡ ps ++ p ∷ [] → t.ored a (conds new) ≡ t.or (t.ored a (conds ps)) (cond p)
ored_more a ps new p e = ap (λ xs. t.ored a (conds xs)) e ∙ ap (t.ored a) (map-append cond ps (p ∷ [])) ∙ ored_last a (conds ps) (cond p)
