mod SampleTrees
mod LoneWords
mod WholeLines
