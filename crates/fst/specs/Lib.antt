-- What the builder's contracts cite: the graph that the arguments are, and what the code answers for what the definition gives.
pub mod Answer
pub mod Epsilons
