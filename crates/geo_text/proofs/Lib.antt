pub mod ObjScanning
pub mod ObjMaking
pub mod ObjColumnLists
pub mod ObjColumnLemmas
pub mod ObjColumnReading
pub mod ObjReader
pub mod ObjLooping
pub mod ObjSurveying
pub mod ObjCounting
pub mod ObjFound
pub mod ObjGrouping
pub mod ObjGeometry
pub mod ObjWhole
pub mod ObjWriter
pub mod ObjSound
pub mod ObjGood
pub mod ObjAnswer
pub mod ObjWritten
pub mod ObjTextLines
pub mod ObjPlain
pub mod ObjReadBack
pub mod ObjGives
pub mod ObjRoundTrip
pub mod ObjShapesBack
pub mod ObjBack
pub mod ObjPigeon
pub mod ObjPrimsBack
pub mod ObjUnrefused
pub mod ObjVectors
pub mod ObjNames
pub mod ObjReferencing
pub mod ObjNumbers
pub mod ObjDecimals
mod Splitting
mod Writing
pub mod Listed
mod ListingExamples
mod ObjExamples
