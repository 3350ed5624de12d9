mod EmptySets
mod OneMore
mod ShownTrees
