-- How the parts of a call that reads files fit together.
use Rattle.std.proofs.Common.{ℕ, ◌≡◌, ◌∙◌, List, [], ◌∷◌, ◌++◌, length, Option, Some, None, true, false, refl, sym, ap, subst, arith, append_assoc}
use Rattle.std.proofs.lemmas.List.{append-nil, length-append}
use Rattle.io_edge.specs.Outside.{Ask, File, Told, with_asked}
use Rattle.io_edge.specs.Outcome.{Outcome, Ended, answered, faulted, starved, done, onward, ◌>>=◌, AskedOf, failed_name, EndsAs, Comes}

-- no read
none-asked : (t : Told) → t ≡ with_asked [] t
none-asked t = ap (λ (x : List Ask). record t { asked = x }) (sym (append-nil t.asked))

-- some reads and then others
both-asked : (t : Told) (xs ys : List Ask) → with_asked ys (with_asked xs t) ≡ with_asked (xs ++ ys) t
both-asked t xs ys = ap (λ (x : List Ask). record t { asked = x }) (append_assoc t.asked xs ys)

-- an answer with no read
pub comes-done : {X : Type 0} (t : Option Told) (x : X) → Comes t t (λ fs. done x) (answered x)
comes-done None x = tt
comes-done (Some t) x = ([], none-asked t, tt, (refl, refl, refl))

-- want of memory with no read, whatever was to come
pub comes-starved : {X : Type 0} (t : Option Told) (o : List File → Outcome X) → Comes t t o starved
comes-starved None o = tt
comes-starved (Some t) o = ([], none-asked t, tt, tt)

-- reads of the first of the names, where more names follow
asked-more : (names more : List (List ℕ)) (asks : List Ask) → AskedOf names asks → AskedOf (names ++ more) asks
asked-more names more [] h = tt
asked-more [] more (a ∷ asks) h = absurd h
asked-more (name ∷ names) more ((n, true) ∷ asks) h = h
asked-more (name ∷ names) more ((n, false) ∷ asks) h = (h.0, asked-more names more asks h.1)

-- reads of all of the names with no fault, and then reads of more names
asked-both : (names more : List (List ℕ)) (asks others : List Ask) → AskedOf names asks → failed_name asks ≡ None → length asks ≡ length names
    → AskedOf more others → AskedOf (names ++ more) (asks ++ others)
asked-both [] more [] others h none same rest = rest
asked-both (name ∷ names) more [] others h none same rest = absurd (omega (arith, same))
asked-both [] more (a ∷ asks) others h none same rest = absurd h
asked-both (name ∷ names) more ((n, true) ∷ asks) others h none same rest = absurd (cc none)
asked-both (name ∷ names) more ((n, false) ∷ asks) others h none same rest =
    (h.0, asked-both names more asks others h.1 none (omega (arith, same)) rest)

-- the fault of reads that follow reads with none
fault-after : (asks others : List Ask) → failed_name asks ≡ None → failed_name (asks ++ others) ≡ failed_name others
fault-after [] others none = refl
fault-after ((n, true) ∷ asks) others none = absurd (cc none)
fault-after ((n, false) ∷ asks) others none = fault-after asks others none

-- the end after both, where the first had no fault
ends-both : {Y : Type 0} (names : List (List ℕ)) (second : Outcome Y) (asks others : List Ask) (end : Ended Y) → failed_name asks ≡ None → length asks ≡ length names
    → EndsAs second others end → EndsAs (record { names = names ++ second.names; end = second.end }) (asks ++ others) end
ends-both names second asks others (answered y) none same h =
    (fault-after asks others none ∙ h.0, length-append asks others ∙ (omega (arith, same, h.1)) ∙ sym (length-append names second.names), h.2)
ends-both names second asks others (faulted name) none same h = fault-after asks others none ∙ h
ends-both names second asks others starved none same h = tt

-- an outcome and the rest that goes by its answer
then-is : {X Y : Type 0} (first : Outcome X) (x : X) (rest : X → Outcome Y) → first.end ≡ Some x
    → record { names = first.names ++ (rest x).names; end = (rest x).end } ≡ (first >>= rest)
then-is first x rest is = ap (λ e. let second = onward e rest in record { names = first.names ++ second.names; end = second.end }) (sym is)

-- an answer and then what is done with it
pub comes-bind : {X Y : Type 0} (t u v : Option Told) (o : List File → Outcome X) (f : X → List File → Outcome Y) (x : X) (end : Ended Y)
    → Comes t u o (answered x) → Comes u v (λ fs. f x fs) end → Comes t v (λ fs. o fs >>= (λ y. f y fs)) end
comes-bind None u v o f x end h k = tt
comes-bind (Some t) None v o f x end h k = absurd h
comes-bind (Some t) (Some u) None o f x end h k = absurd k
comes-bind (Some t) (Some u) (Some v) o f x end h k =
    let second = f x t.files in
    let is = then-is (o t.files) x (λ y. f y t.files) h.3.2 in
    let k2 : Comes (Some (with_asked h.0 t)) (Some v) (λ fs. f x fs) end = subst (λ (w : Told). Comes (Some w) (Some v) (λ fs. f x fs) end) h.1 k in
    let both : Outcome _ = record { names = (o t.files).names ++ second.names; end = second.end } in
    let asked : AskedOf both.names (h.0 ++ k2.0) = asked-both (o t.files).names second.names h.0 k2.0 h.2 h.3.0 h.3.1 k2.2 in
    let ends : EndsAs both (h.0 ++ k2.0) end = ends-both (o t.files).names second h.0 k2.0 end h.3.0 h.3.1 k2.3 in
    (h.0 ++ k2.0, k2.1 ∙ both-asked t h.0 k2.0, subst (λ (p : Outcome _). AskedOf p.names (h.0 ++ k2.0)) is asked, subst (λ (p : Outcome _). EndsAs p (h.0 ++ k2.0) end) is ends)

-- a failed read, which ends the whole
pub comes-bind-faulted : {X Y : Type 0} (t u : Option Told) (o : List File → Outcome X) (f : X → List File → Outcome Y) (name : List ℕ)
    → Comes t u o (faulted name) → Comes t u (λ fs. o fs >>= (λ x. f x fs)) (faulted name)
comes-bind-faulted None u o f name h = tt
comes-bind-faulted (Some t) None o f name h = absurd h
comes-bind-faulted (Some t) (Some u) o f name h = (h.0, h.1, asked-more (o t.files).names _ h.0 h.2, h.3)

-- want of memory, which ends the whole
pub comes-bind-starved : {X Y : Type 0} (t u : Option Told) (o : List File → Outcome X) (f : X → List File → Outcome Y)
    → Comes t u o starved → Comes t u (λ fs. o fs >>= (λ x. f x fs)) starved
comes-bind-starved None u o f h = tt
comes-bind-starved (Some t) None o f h = absurd h
comes-bind-starved (Some t) (Some u) o f h = (h.0, h.1, asked-more (o t.files).names _ h.0 h.2, tt)

-- an answer, and what is made of it with no read
pub comes-mapped : {X Y : Type 0} (t u : Option Told) (o : List File → Outcome X) (g : X → Y) (x : X)
    → Comes t u o (answered x) → Comes t u (λ fs. o fs >>= (λ y. done (g y))) (answered (g x))
comes-mapped t u o g x h = comes-bind t u u o (λ y fs. done (g y)) x (answered (g x)) h (comes-done u (g x))

-- outcomes that are the same over any files
pub comes-same : {X : Type 0} (t u : Option Told) (o p : List File → Outcome X) (end : Ended X) → ((fs : List File) → o fs ≡ p fs) → Comes t u o end → Comes t u p end
comes-same None u o p end same h = tt
comes-same (Some t) None o p end same h = absurd h
comes-same (Some t) (Some u) o p end same h =
    (h.0, h.1, subst (λ (q : Outcome _). AskedOf q.names h.0) (same t.files) h.2, subst (λ (q : Outcome _). EndsAs q h.0 end) (same t.files) h.3)
