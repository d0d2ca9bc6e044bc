-- The four checks of a graph, in order. Assumes nothing.
use mathlib.Core.Path.{◌≡◌, sym, ◌∙◌, ap, ap₂}
use mathlib.Core.Bool.{Bool, true, false}
use mathlib.Core.List.{[], ◌∷◌}
use mathlib.Core.Option.{Option, none}
use Rattle.model.specs.Basics.{first_of, nowhere, Refusal as Wrong}
use Rattle.model.specs.Graph.{Graph, shape_wrong, start_wrong, refuse_at, check_states, check_finals, check_graph}
use Rattle.refusals.specs.declared.Place.TheVariants.{Nowhere}
use Rattle.refusals.specs.declared.Refusal.{Refusal}
use Rattle.std.specs.Prelude.{Result, Ok, Err}
use Rattle.fst.specs.declared.Graph.{Graph as Value}
use Rattle.fst.specs.Answer.{found_of, built_of, build_of}
use Rattle.fst.proofs.Walk.{no_fault, the_fault}

module _ (g : Graph) where
  abbrev by : (a b : Bool) (s f : Option Wrong) → Result Value Refusal
  by a b s f = built_of g (first_of (refuse_at nowhere 1 a ∷ refuse_at nowhere 2 b ∷ s ∷ f ∷ []))

  abbrev pub arcs : Option Wrong
  arcs = check_states g 0 g.offsets

  abbrev pub ends : Option Wrong
  ends = check_finals 0 g.finals

  pub shape_refused : true ≡ shape_wrong g → Err (record { number = 1; place = Nowhere }) ≡ build_of g
  unfolding check_graph
  shape_refused a = ap (λ (t : Bool). by t (start_wrong g) arcs ends) a

  module _ (a : false ≡ shape_wrong g) where
    pub start_refused : true ≡ start_wrong g → Err (record { number = 2; place = Nowhere }) ≡ build_of g
    unfolding check_graph
    start_refused b = ap₂ (λ (t u : Bool). by t u arcs ends) a b

    module _ (b : false ≡ start_wrong g) where
      pub arc_refused : (r : Refusal) → Err r ≡ found_of arcs → Err r ≡ build_of g
      unfolding check_graph
      arc_refused r e =
          let f = the_fault arcs r e in
          ap Err f.2 ∙ ap (λ (o : Option Wrong). by false false o ends) (sym f.1) ∙ ap₂ (λ (t u : Bool). by t u arcs ends) a b

      module _ (s : Ok tt ≡ found_of arcs) where
        pub final_refused : (r : Refusal) → Err r ≡ found_of ends → Err r ≡ build_of g
        unfolding check_graph
        final_refused r e =
            let f = the_fault ends r e in
            ap Err f.2 ∙ ap₂ (λ (o p : Option Wrong). by false false o p) (sym (no_fault arcs s)) (sym f.1) ∙ ap₂ (λ (t u : Bool). by t u arcs ends) a b

        pub accepted : Ok tt ≡ found_of ends → built_of g none ≡ build_of g
        unfolding check_graph
        accepted e = ap₂ (λ (o p : Option Wrong). by false false o p) (sym (no_fault arcs s)) (sym (no_fault ends e)) ∙ ap₂ (λ (t u : Bool). by t u arcs ends) a b
